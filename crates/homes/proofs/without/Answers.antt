-- `homes::without`. The loop keeps: the entries passed are those of the shorter list.
use mathlib.Core.Path.{refl, ap, ◌∙◌}
use mathlib.Core.List.{List}
use Prim.Native.Nat.{ℕ, ◌-◌}
use native.Mathlib.Omega.{arith}
use borrow.Author.Count.{below_none}
use lib.ListN.{length-set}
use Rattle.lists.specs.Tabulate.{tabulated, fill_step}
use Rattle.homes.specs.Dropping.{entry_without}
use Rattle.homes.specs.Steps.{entry_is}
use Rattle.homes.proofs.without.Goals as goal

pub overflow_sub-last : goal.overflow_sub-last
overflow_sub-last c = c.requires.0

pub place_of-place-requires : goal.place_of-place-requires
place_of-place-requires c = c.requires.1

pub loop-i-init : goal.loop-i-init
loop-i-init c = (omega arith, refl, below_none _)

pub entry_without-requires : goal.entry_without-requires
entry_without-requires c = (omega (arith, c.requires.1), c.loop-i-test.true)

pub loop-i-preserved : goal.loop-i-preserved
loop-i-preserved c = let a = c.args in
    let l = c.loop-i in (
      omega arith,
      length-set l.failed l.i _ ∙ l.invariant.1,
      fill_step (entry_without a.r a.t) l.failed l.i _ 0 (omega (arith, l.invariant.1))
          (entry_is a.r a.t _ l.i _ c.place_of-place.ensures c.entry_without.ensures) l.invariant.2,
    )

pub overflow_sub-result : goal.overflow_sub-result
overflow_sub-result c = omega (arith, c.requires.0)

pub overflow_sub-result-2 : goal.overflow_sub-result-2
overflow_sub-result-2 c = omega (arith, c.requires.2)

pub returns : goal.returns
returns c = let a = c.args in
    let l = c.loop-i in
    ap (λ (f : List ℕ). record { failed = f; k = a.r.k - 1; q = a.r.q - 1; waiting = a.r.waiting })
    (tabulated 3 (entry_without a.r a.t) l.failed 0 l.invariant.1 (λ j h. l.invariant.2 j (omega arith)))
