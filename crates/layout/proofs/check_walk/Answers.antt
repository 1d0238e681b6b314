-- `layout::check_walk` meets its contract: each return rewrites the table by the tests that led there.
use mathlib.Core.Path.{refl}
use Prim.Native.Nat.{◌≤◌, ◌<◌}
use native.Mathlib.Omega.{arith}
use borrow.Author.Tests.{le-leb, le-ltb, lt-leb, lt-ltb}
use Rattle.lists.proofs.Answering.{refused, handed_on}
use Rattle.lists.specs.Refusal.{◌or_else◌, refusal_by}
use Rattle.numbers.specs.Layouts.{frames}
use Rattle.numbers.specs.Refused.{bad-layout, good-layout, valid_true}
use Rattle.layout.specs.Walk.{walk_refusal}
use Rattle.layout.proofs.check_walk.Goals as goal

pub returns-in_err-check : goal.returns-in_err-check
unfolding walk_refusal
returns-in_err-check c = handed_on _ c.in_err-check.field-0.0 c.from_residual.ensures.1 (bad-layout _ _ c.in_err-check.ensures (refused _))

pub numbers_of-numbers-requires : goal.numbers_of-numbers-requires
numbers_of-numbers-requires c = good-layout _ c.in_ok-check.ensures refl

pub returns-then-y-at : goal.returns-then-y-at
unfolding walk_refusal refusal_by ◌or_else◌
returns-then-y-at c = let y = c.args.y in
    let h1 : y.p ≤ c.args.at.target = omega arith in
    simp (valid_true y (good-layout _ c.in_ok-check.ensures refl), le-ltb _ _ h1)

pub returns-then-numbers-at : goal.returns-then-numbers-at
unfolding walk_refusal refusal_by ◌or_else◌
returns-then-numbers-at c = let y = c.args.y in
    let h1 : c.args.at.target < y.p = omega arith in
    let h2 : frames y < c.args.at.frame = omega arith in
    simp (valid_true y (good-layout _ c.in_ok-check.ensures refl), lt-ltb _ _ h1, lt-leb _ _ h2)

pub returns : goal.returns
unfolding walk_refusal refusal_by ◌or_else◌
returns c = let y = c.args.y in
    let h1 : c.args.at.target < y.p = omega arith in
    let h2 : c.args.at.frame ≤ frames y = omega arith in
    simp (valid_true y (good-layout _ c.in_ok-check.ensures refl), lt-ltb _ _ h1, le-leb _ _ h2)
