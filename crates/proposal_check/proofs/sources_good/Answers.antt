-- `proposal_check::sources_good` meets its contract. The loop keeps: the sources passed are good, and taken, as the missing contents are.
use Rattle.std.proofs.Common.{sym, arith, rules}
use Rattle.proposal_check.specs.Entry.{taken_begin, taken_next, taken_end, source_above, source_taken}
use Rattle.proposal_check.proofs.sources_good.Goals as goal
use Rattle.proposal_check.proofs.sources_good.Goals.{then-m-x-via-then-m-x, then-m-x-via-else-m-x+then-taken-x}

pub loop-source-init : goal.loop-source-init
loop-source-init c = taken_begin _ _ _ (search rules)

-- or one is too large, or taken
pub returns-then-m-x : goal.returns-then-m-x
returns-then-m-x c =
    elim c.then-m-x.branch [
      | then-m-x-via-then-m-x w ↦ sym (source_above _ _ _ c.loop-source.source-index _ c.loop-source-test.true w.if-m-x.true)
      | then-m-x-via-else-m-x+then-taken-x w ↦
          sym (source_taken _ _ _ _ _ c.loop-source.invariant (omega (arith, w.if-m-x.false)) _ c.loop-source-test.true w.if-taken-x.true)
    ]

pub loop-source-preserved : goal.loop-source-preserved
loop-source-preserved c = taken_next _ _ _ _ _ c.loop-source.invariant (omega (arith, c.if-m-x.false)) c.if-m-x.false c.if-taken-x.false

-- all are good
pub returns : goal.returns
returns c = sym (taken_end _ _ _ _ _ _ c.loop-source.invariant c.loop-source-test.false)
