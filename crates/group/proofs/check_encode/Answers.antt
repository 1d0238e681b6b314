-- `group::check_encode`. Each return rewrites the table by the tests that led there.
use mathlib.Core.Path.{refl}
use Prim.Native.Nat.{◌*◌}
use native.Mathlib.Omega.{arith}
use borrow.Author.Tests.{eq-eqb, ne_eqb}
use Rattle.lists.specs.Refusal.{◌or_else◌, refusal_by}
use Rattle.lists.proofs.Answering.{refused, handed_on}
use Rattle.numbers.specs.Layouts.{contents}
use Rattle.numbers.specs.Refused.{bad-layout, good-layout, valid_true}
use Rattle.group.specs.Encode.{encode_refusal}
use Rattle.group.specs.Accepted.{group_bytes}
use Rattle.group.proofs.check_encode.Goals as goal

pub returns-in_err-check : goal.returns-in_err-check
unfolding encode_refusal
returns-in_err-check c = handed_on _ c.in_err-check.field-0.0 c.from_residual.ensures.1 (bad-layout _ _ c.in_err-check.ensures (refused _))

pub overflow_add-y : goal.overflow_add-y
overflow_add-y c = let v = good-layout c.args.y c.in_ok-check.ensures refl in omega arith

pub overflow_mul-y : goal.overflow_mul-y
overflow_mul-y c = let v = good-layout c.args.y c.in_ok-check.ensures refl in omega (arith, group_bytes _ v)

pub returns-then-len-y : goal.returns-then-len-y
unfolding encode_refusal refusal_by ◌or_else◌
returns-then-len-y c = let y = c.args.y in
    let v = good-layout y c.in_ok-check.ensures refl in
    simp (valid_true y v, ne_eqb c.args.len (contents y * y.u) c.if-len-y.true)

pub returns : goal.returns
unfolding encode_refusal refusal_by ◌or_else◌
returns c = let y = c.args.y in
    let v = good-layout y c.in_ok-check.ensures refl in
    simp (valid_true y v, eq-eqb c.args.len (contents y * y.u) c.if-len-y.false)
