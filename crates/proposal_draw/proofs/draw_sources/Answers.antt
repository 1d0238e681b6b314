-- `proposal_draw::draw_sources` meets its contract. The loop keeps: of the contents passed the present ones are written (`SourcesTo`); while some are
-- wanted a content is left.
use Rattle.std.proofs.Common.{not, ap}
use native.Mathlib.Omega.{arith}
use Rattle.proposal_draw.specs.Entry.{sources_begin, source-missing, source-present}
use Rattle.proposal_draw.proofs.draw_sources.Goals as goal
use Rattle.std.proofs.Common.{◌≡◌, true, false}
use Rattle.parity.specs.Matrix.{flag}

pub loop-j-init : goal.loop-j-init
loop-j-init c = sources_begin _ _ _ _ _

pub loop-j-preserved : goal.loop-j-preserved
loop-j-preserved c =
    let l = c.loop-j in
    let present = λ (t : flag c.args.missing l.u ≡ false). source-present _ _ _ _ _ _ _ _ l.invariant c.loop-j-test.true c.requires.1 c.requires.2 (ap not t) in
    let missing = λ (t : flag c.args.missing l.u ≡ true). source-missing _ _ _ _ _ _ _ _ l.invariant c.loop-j-test.true c.requires.1 (ap not t) in
    grind (arith, present, missing)
