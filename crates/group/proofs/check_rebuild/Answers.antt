-- `group::check_rebuild`. Each return is the table's by the tests that led there (Accepted.antt).
use mathlib.Core.Path.{refl, ap}
use mathlib.Core.Bool.{Bool}
use Prim.Native.Nat.{ℕ}
use native.Mathlib.Omega.{arith}
use Rattle.lists.specs.Count.{count}
use Rattle.lists.specs.Pick.{clash}
use Rattle.lists.proofs.Answering.{refused, handed_on}
use Rattle.numbers.specs.Layouts.{contents}
use Rattle.numbers.specs.Refused.{bad-layout, good-layout}
use Rattle.group.specs.Rebuild.{rebuild_refusal}
use Rattle.group.specs.Accepted.{group_bytes, each_below-all, each_below-not_all, unit_refused, below_19, length-refused, many_refused, none-refused}
use Rattle.group.proofs.check_rebuild.Goals as goal

pub returns-in_err-check : goal.returns-in_err-check
unfolding rebuild_refusal
returns-in_err-check c = handed_on _ c.in_err-check.field-0.0 c.from_residual.ensures.1 (bad-layout _ _ c.in_err-check.ensures (refused _))

pub overflow_add-m : goal.overflow_add-m
overflow_add-m c = let v = good-layout c.args.y c.in_ok-check.ensures refl in omega arith

pub returns-then-not-are_below : goal.returns-then-not-are_below
returns-then-not-are_below c = let a = c.args in
    let v = good-layout a.y c.in_ok-check.ensures refl in
    unit_refused a.y v a.missing.now a.len (each_below-not_all _ _ (λ all. clash c.are_below.result (c.are_below.ensures.1 all) c.if-not-are_below.true))

pub overflow_mul-m : goal.overflow_mul-m
overflow_mul-m c = let a = c.args in
    let v = good-layout a.y c.in_ok-check.ensures refl in
    omega (arith, group_bytes a.y v)

pub returns-then-len-m : goal.returns-then-len-m
returns-then-len-m c = let a = c.args in
    let v = good-layout a.y c.in_ok-check.ensures refl in
    length-refused a.y v a.missing.now a.len (each_below-all _ _ (c.are_below.ensures.0 c.if-not-are_below.false)) c.if-len-m.true

pub flags-requires : goal.flags-requires
flags-requires c = let a = c.args in
    let v = good-layout a.y c.in_ok-check.ensures refl in
    below_19 a.y v a.missing.now a.len (each_below-all _ _ (c.are_below.ensures.0 c.if-not-are_below.false))

pub flagged-requires : goal.flagged-requires
flagged-requires c = let v = good-layout c.args.y c.in_ok-check.ensures refl in omega arith

pub returns-then-y-flagged : goal.returns-then-y-flagged
returns-then-y-flagged c = let a = c.args in
    let v = good-layout a.y c.in_ok-check.ensures refl in
    many_refused a.y v a.missing.now a.len (each_below-all _ _ (c.are_below.ensures.0 c.if-not-are_below.false)) c.if-len-m.false
    (omega (arith, c.if-y-flagged.true, c.flagged.ensures, ap (λ (f : ℕ → Bool). count f (contents a.y)) c.flags.ensures))

pub returns : goal.returns
returns c = let a = c.args in
    let v = good-layout a.y c.in_ok-check.ensures refl in
    none-refused a.y v a.missing.now a.len (each_below-all _ _ (c.are_below.ensures.0 c.if-not-are_below.false)) c.if-len-m.false
    (omega (arith, c.if-y-flagged.false, c.flagged.ensures, ap (λ (f : ℕ → Bool). count f (contents a.y)) c.flags.ensures))
