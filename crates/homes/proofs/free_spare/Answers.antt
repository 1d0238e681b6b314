-- `homes::free_spare`. The loop keeps: none of the spares passed is free.
use mathlib.Core.Path.{sym, ◌∙◌}
use native.Mathlib.Omega.{arith}
use borrow.Author.Count.{below_none, below_more}
use Rattle.lists.specs.Search.{any_false, lowest-none, lowest-at}
use Rattle.lists.specs.Tabulate.{at}
use Rattle.homes.specs.Homes.{free}
use Rattle.homes.proofs.free_spare.Goals as goal

pub loop-spare-init : goal.loop-spare-init
loop-spare-init c = (omega arith, below_none _)

pub returns-then-is_free : goal.returns-then-is_free
returns-then-is_free c = let a = c.args in
    let l = c.loop-spare in
    (sym (lowest-at (free (at a.targets) a.m (at a.failed) a.j (at a.homes)) a.spares l.spare (omega arith) (sym c.is_free.ensures ∙ c.if-is_free.true) l.invariant.1), omega arith)

pub loop-spare-preserved : goal.loop-spare-preserved
loop-spare-preserved c = (omega arith, below_more _ _ c.loop-spare.invariant.1 (sym c.is_free.ensures ∙ c.if-is_free.false))

pub returns : goal.returns
returns c = let a = c.args in
    let f = free (at a.targets) a.m (at a.failed) a.j (at a.homes) in
    (sym (lowest-none f a.spares (any_false f a.spares (λ k b. c.loop-spare.invariant.1 k (omega arith)))), omega arith)
