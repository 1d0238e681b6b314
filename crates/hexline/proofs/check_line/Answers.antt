-- `hexline::check_line` meets its contract: each return rewrites the table by the tests that led there.
use Prim.Native.Nat.{◌+◌, ◌*◌, ◌≤◌, ◌<◌}
use mathlib.Core.Path.{◌≡◌, refl}
use Rattle.lists.proofs.Answering.{refused, handed_on}
use native.Mathlib.Omega.{arith}
use borrow.Author.Tests.{le-ltb, lt-ltb, eq-eqb, ne_eqb}
use Rattle.lists.specs.Refusal.{◌or_else◌, refusal_by}
use Rattle.numbers.specs.Layouts.{Valid, frames, image_length}
use Rattle.numbers.specs.Refused.{bad-layout, good-layout, valid_true}
use Rattle.hexline.specs.HexLine.{hex_refusal}
use Rattle.hexline.proofs.check_line.Goals as goal

valid : (c : goal.In_ok-check) → Valid c.args.y
valid c = good-layout _ c.in_ok-check.ensures refl

pub returns-in_err-check : goal.returns-in_err-check
unfolding hex_refusal
returns-in_err-check c = handed_on _ c.in_err-check.field-0.0 c.from_residual.ensures.1 (bad-layout _ _ c.in_err-check.ensures (refused _))

pub numbers_of-m-requires : goal.numbers_of-m-requires
numbers_of-m-requires c = valid c

pub returns-then-image-m : goal.returns-then-image-m
unfolding hex_refusal refusal_by ◌or_else◌
returns-then-image-m c = let a = c.args in
    let v = good-layout a.y c.in_ok-check.ensures refl in
    simp (valid_true a.y v, ne_eqb _ _ (λ (e : a.image ≡ image_length a.y). omega (arith, e)))

pub returns-then-y-target : goal.returns-then-y-target
unfolding hex_refusal refusal_by ◌or_else◌
returns-then-y-target c = let a = c.args in
    let v = good-layout a.y c.in_ok-check.ensures refl in
    let h1 : a.image ≡ image_length a.y = omega arith in
    let h2 : a.y.p ≤ a.target = omega arith in
    simp (valid_true a.y v, eq-eqb _ _ h1, le-ltb _ _ h2)

pub returns-then-m-frame : goal.returns-then-m-frame
unfolding hex_refusal refusal_by ◌or_else◌
returns-then-m-frame c = let a = c.args in
    let v = good-layout a.y c.in_ok-check.ensures refl in
    let h1 : a.image ≡ image_length a.y = omega arith in
    let h2 : a.target < a.y.p = omega arith in
    let h3 : frames a.y ≤ a.frame = omega arith in
    simp (valid_true a.y v, eq-eqb _ _ h1, lt-ltb _ _ h2, le-ltb _ _ h3)

pub overflow_mul-y : goal.overflow_mul-y
overflow_mul-y c = let v = good-layout c.args.y c.in_ok-check.ensures refl in omega arith

pub overflow_add-y : goal.overflow_add-y
overflow_add-y c = let v = good-layout c.args.y c.in_ok-check.ensures refl in omega arith

pub returns-then-line-y : goal.returns-then-line-y
unfolding hex_refusal refusal_by ◌or_else◌
returns-then-line-y c = let a = c.args in
    let v = good-layout a.y c.in_ok-check.ensures refl in
    let h1 : a.image ≡ image_length a.y = omega arith in
    let h2 : a.target < a.y.p = omega arith in
    let h3 : a.frame < frames a.y = omega arith in
    simp (valid_true a.y v, eq-eqb _ _ h1, lt-ltb _ _ h2, lt-ltb _ _ h3, ne_eqb _ _ (λ (e : a.line ≡ 11 + 2 * a.y.u). omega (arith, e)))

pub returns : goal.returns
unfolding hex_refusal refusal_by ◌or_else◌
returns c = let a = c.args in
    let v = good-layout a.y c.in_ok-check.ensures refl in
    let h1 : a.image ≡ image_length a.y = omega arith in
    let h2 : a.target < a.y.p = omega arith in
    let h3 : a.frame < frames a.y = omega arith in
    let h4 : a.line ≡ 11 + 2 * a.y.u = omega arith in
    simp (valid_true a.y v, eq-eqb _ _ h1, lt-ltb _ _ h2, lt-ltb _ _ h3, eq-eqb _ _ h4)
