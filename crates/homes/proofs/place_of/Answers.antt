-- `homes::place_of`. The loop keeps: none of the entries passed is t.
use mathlib.Core.Path.{sym}
use mathlib.Core.Bool.{Bool}
use Prim.Native.Nat.{ℕ}
use native.Mathlib.Omega.{arith}
use borrow.Author.Count.{below_none, below_more}
use borrow.Author.Tests.{eq-eqb, ne_eqb}
use lib.Dec.{eqb}
use Rattle.lists.specs.Search.{any_false, lowest-none, lowest-at}
use Rattle.lists.specs.Tabulate.{at}
use Rattle.homes.proofs.place_of.Goals as goal

pub loop-i-init : goal.loop-i-init
loop-i-init c = (omega arith, below_none _)

pub returns-then-failed-i : goal.returns-then-failed-i
returns-then-failed-i c = let a = c.args in
    let l = c.loop-i in
    sym (lowest-at (λ j. eqb (at a.failed j) a.t) a.k l.i (omega arith) (eq-eqb _ _ c.if-failed-i.true) l.invariant.1)

pub loop-i-preserved : goal.loop-i-preserved
loop-i-preserved c = (omega arith, below_more _ _ c.loop-i.invariant.1 (ne_eqb _ _ c.if-failed-i.false))

pub returns : goal.returns
returns c = let a = c.args in
    let f : ℕ → Bool = λ j. eqb (at a.failed j) a.t in
    sym (lowest-none f a.k (any_false f a.k (λ j b. c.loop-i.invariant.1 j (omega arith))))
