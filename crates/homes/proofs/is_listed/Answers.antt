-- `homes::is_listed`. The loop keeps: none of the entries passed is t.
use mathlib.Core.Path.{sym, ap, ◌∙◌}
use native.Mathlib.Omega.{arith}
use borrow.Author.Count.{below_none, below_more}
use Rattle.lists.specs.Tabulate.{at}
use Rattle.homes.specs.Listed.{listed, listed_at, unlisted_of}
use Rattle.homes.proofs.is_listed.Goals as goal

pub loop-i-init : goal.loop-i-init
loop-i-init c = (omega arith, below_none _)

pub returns-then-failed-i : goal.returns-then-failed-i
returns-then-failed-i c = let a = c.args in
    let i = c.loop-i.i in
    sym (ap (listed (at a.failed) a.j) (sym c.if-failed-i.true) ∙ listed_at (at a.failed) a.j i (omega arith))

pub loop-i-preserved : goal.loop-i-preserved
loop-i-preserved c = (omega arith, below_more _ _ c.loop-i.invariant.1 c.if-failed-i.false)

pub returns : goal.returns
returns c = let a = c.args in
    sym (unlisted_of (at a.failed) a.j a.t (λ k b. c.loop-i.invariant.1 k (omega arith)))
