-- `pool_text::check_image` meets its contract: each return rewrites the table by the tests that led there.
use mathlib.Core.Path.{◌≡◌, refl}
use borrow.Author.Tests.{eq-eqb, ne_eqb}
use native.Mathlib.Omega.{arith}
use Rattle.lists.specs.Refusal.{◌or_else◌, refusal_by}
use Rattle.lists.proofs.Answering.{refused, handed_on}
use Rattle.numbers.specs.Layouts.{image_length}
use Rattle.numbers.specs.Refused.{bad-layout, good-layout, valid_true}
use Rattle.pool_text.specs.TextCalls.{image_refusal}
use Rattle.pool_text.proofs.check_image.Goals as goal

pub returns-in_err-check : goal.returns-in_err-check
unfolding image_refusal
returns-in_err-check c = handed_on _ c.in_err-check.field-0.0 c.from_residual.ensures.1 (bad-layout _ _ c.in_err-check.ensures (refused _))

pub numbers_of-m-requires : goal.numbers_of-m-requires
numbers_of-m-requires c = good-layout _ c.in_ok-check.ensures refl

pub returns-then-image-m : goal.returns-then-image-m
unfolding image_refusal refusal_by ◌or_else◌
returns-then-image-m c = let a = c.args in
    let v = good-layout a.y c.in_ok-check.ensures refl in
    simp (valid_true a.y v, ne_eqb _ _ (λ (e : a.image ≡ image_length a.y). omega (arith, e)))

pub returns : goal.returns
unfolding image_refusal refusal_by ◌or_else◌
returns c = let a = c.args in
    let v = good-layout a.y c.in_ok-check.ensures refl in
    let h : a.image ≡ image_length a.y = omega arith in
    simp (valid_true a.y v, eq-eqb _ _ h)
