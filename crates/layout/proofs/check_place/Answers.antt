-- `layout::check_place` meets its contract: each return rewrites the table by the tests that led there.
use mathlib.Core.Path.{refl}
use Prim.Native.Nat.{◌≤◌, ◌<◌}
use native.Mathlib.Omega.{arith}
use borrow.Author.Tests.{le-ltb, lt-ltb}
use Rattle.lists.proofs.Answering.{refused, handed_on}
use Rattle.lists.specs.Refusal.{◌or_else◌, refusal_by}
use Rattle.numbers.specs.Layouts.{all_groups, width}
use Rattle.numbers.specs.Refused.{bad-layout, good-layout, valid_true}
use Rattle.layout.specs.Places.{place_refusal}
use Rattle.layout.proofs.check_place.Goals as goal

pub returns-in_err-check : goal.returns-in_err-check
unfolding place_refusal
returns-in_err-check c = handed_on _ c.in_err-check.field-0.0 c.from_residual.ensures.1 (bad-layout _ _ c.in_err-check.ensures (refused _))

pub numbers_of-numbers-requires : goal.numbers_of-numbers-requires
numbers_of-numbers-requires c = good-layout _ c.in_ok-check.ensures refl

pub returns-then-numbers-group : goal.returns-then-numbers-group
unfolding place_refusal refusal_by ◌or_else◌
returns-then-numbers-group c = let y = c.args.y in
    let h1 : all_groups y ≤ c.args.group = omega arith in
    simp (valid_true y (good-layout _ c.in_ok-check.ensures refl), le-ltb _ _ h1)

pub returns-then-numbers-unit : goal.returns-then-numbers-unit
unfolding place_refusal refusal_by ◌or_else◌
returns-then-numbers-unit c = let y = c.args.y in
    let h1 : c.args.group < all_groups y = omega arith in
    let h2 : width y ≤ c.args.unit = omega arith in
    simp (valid_true y (good-layout _ c.in_ok-check.ensures refl), lt-ltb _ _ h1, le-ltb _ _ h2)

pub returns : goal.returns
unfolding place_refusal refusal_by ◌or_else◌
returns c = let y = c.args.y in
    let h1 : c.args.group < all_groups y = omega arith in
    let h2 : c.args.unit < width y = omega arith in
    simp (valid_true y (good-layout _ c.in_ok-check.ensures refl), lt-ltb _ _ h1, lt-ltb _ _ h2)
