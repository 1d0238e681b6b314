-- `kernel::schedule::xor_run`. The loop keeps: the bytes before i have the run added, the others are as they were.
use mathlib.Core.Path.{◌≡◌, refl, ap, ◌∙◌, subst}
use Prim.Native.Nat.{ℕ, ◌+◌}
use native.Mathlib.Omega.{arith}
use lib.ListN.{get_or, length-set}
use lib.Bits.{bit_xor}
use Rattle.field.specs.Byte.{◌⊕◌}
use Rattle.lists.specs.Span.{Span, span_none, span_step}
use Rattle.kernel.proofs.schedule.xor_run.Goals as goal

pub loop-i-init : goal.loop-i-init
loop-i-init c = (omega arith, c.requires.0, span_none _ 0 _ refl)

pub loop-i-preserved : goal.loop-i-preserved
unfolding ◌⊕◌
loop-i-preserved c = let l = c.loop-i in
    let a = c.args in (
      omega arith,
      length-set l.acc l.i _ ∙ l.invariant.1,
      span_step _ 0 l.i l.acc _ (omega arith) (omega arith) refl l.invariant.2
          (ap (λ (z : ℕ). bit_xor z (get_or a.src.now (a.s + l.i) 0)) (l.invariant.2.after l.i (omega arith))),
    )

pub returns : goal.returns
returns c = let l = c.loop-i in
    let a = c.args in
    let e : l.i ≡ a.m = omega arith in
    subst (λ (z : ℕ). Span (λ x. get_or a.acc.now x 0 ⊕ get_or a.src.now (a.s + x) 0) 0 z a.acc.now l.acc) e l.invariant.2
