-- `homes::entries_good`. The loop keeps: the entries passed are good.
use mathlib.Core.Path.{sym, ◌∙◌}
use native.Mathlib.Omega.{arith}
use borrow.Author.Count.{below_none, below_more}
use Rattle.lists.specs.Search.{all_true}
use Rattle.homes.specs.Records.{entry_good}
use Rattle.homes.specs.Steps.{entry_outside, entry_twice, entry_fine, one-bad}
use Rattle.homes.proofs.entries_good.Goals as goal

pub loop-i-init : goal.loop-i-init
loop-i-init c = (omega arith, below_none _)

pub returns-then-y-t : goal.returns-then-y-t
returns-then-y-t c = let a = c.args in
    let i = c.loop-i.i in
    one-bad (entry_good a.y a.r) a.r.k i (omega arith) (entry_outside a.y a.r i c.if-y-t.true)

pub returns-then-is_listed : goal.returns-then-is_listed
returns-then-is_listed c = let a = c.args in
    let i = c.loop-i.i in
    one-bad (entry_good a.y a.r) a.r.k i (omega arith) (entry_twice a.y a.r i (sym c.is_listed.ensures ∙ c.if-is_listed.true))

pub loop-i-preserved : goal.loop-i-preserved
loop-i-preserved c = let a = c.args in
    let l = c.loop-i in (
      omega arith,
      below_more _ _ l.invariant.1 (entry_fine a.y a.r l.i (omega arith) (sym c.is_listed.ensures ∙ c.if-is_listed.false)),
    )

pub returns : goal.returns
returns c = let a = c.args in
    sym (all_true (entry_good a.y a.r) a.r.k (λ n b. c.loop-i.invariant.1 n (omega arith)))
