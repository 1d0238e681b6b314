-- `kernel::add_block`. The loop keeps: i bytes from o on have the block added.
use mathlib.Core.Path.{◌≡◌, ap, ap₂, subst}
use Prim.Native.Nat.{ℕ, ◌+◌, ◌-◌}
use native.Mathlib.Nat.{le_refl}
use native.Mathlib.Omega.{arith}
use lib.ListN.{get_or}
use lib.Bits.{bit_xor}
use Rattle.field.specs.Byte.{◌⊕◌}
use Rattle.lists.specs.Span.{Span, span_none, span_step}
use Rattle.kernel.proofs.add_block.Goals as goal

pub loop-i-init : goal.loop-i-init
loop-i-init c = (omega arith, span_none _ c.args.o c.args.out.now (omega arith))

pub loop-i-preserved : goal.loop-i-preserved
unfolding ◌⊕◌
loop-i-preserved c = let a = c.args in
    let l = c.loop-i in
    let n = l.invariant.1.len in (
      omega arith,
      span_step _ a.o (a.o + l.i) l.out _ (omega arith) (omega arith) (omega arith) l.invariant.1
          (ap₂ bit_xor (l.invariant.1.after (a.o + l.i) (le_refl _)) (ap (λ (z : ℕ). get_or a.b.now z 0) (let w : l.i ≡ a.o + l.i - a.o = omega arith in w))),
    )

pub returns : goal.returns
returns c = let a = c.args in
    let l = c.loop-i in
    let e : l.i ≡ a.m = omega arith in
    subst (λ (z : ℕ). Span (λ y. get_or a.out.now y 0 ⊕ get_or a.b.now (y - a.o) 0) a.o (a.o + z) a.out.now l.out) e l.invariant.1
