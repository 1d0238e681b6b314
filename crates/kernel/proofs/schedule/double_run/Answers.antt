-- `kernel::schedule::double_run`. The loop keeps: the bytes before i are doubled, the others as they were.
use mathlib.Core.Path.{◌≡◌, refl, ap, ◌∙◌, subst}
use Prim.Native.Nat.{ℕ}
use native.Mathlib.Omega.{arith}
use lib.ListN.{get_or, length-set}
use Rattle.field.specs.Byte.{double}
use Rattle.lists.specs.Span.{Span, span_none, span_step}
use Rattle.kernel.proofs.schedule.double_run.Goals as goal

pub loop-i-init : goal.loop-i-init
loop-i-init c = (omega arith, c.requires.0, span_none _ 0 _ refl)

pub loop-i-preserved : goal.loop-i-preserved
loop-i-preserved c = let l = c.loop-i in (
  omega arith,
  length-set l.acc l.i _ ∙ l.invariant.1,
  span_step _ 0 l.i l.acc _ (omega arith) (omega arith) refl l.invariant.2 (c.double.ensures ∙ ap double (l.invariant.2.after l.i (omega arith))),
)

pub returns : goal.returns
returns c = let l = c.loop-i in
    let e : l.i ≡ c.args.m = omega arith in
    subst (λ (z : ℕ). Span (λ x. double (get_or c.args.acc.now x 0)) 0 z c.args.acc.now l.acc) e l.invariant.2
