-- `kernel::schedule::fill_lowest`. The loop keeps: the list names those of the first j runs that have the digit. A turn is `plane-step`.
use mathlib.Core.Path.{◌≡◌, ◌∙◌, subst}
use Prim.Native.Nat.{ℕ, ◌+◌}
use native.Mathlib.Nat.{zero-add}
use native.Mathlib.Omega.{arith}
use lib.ListN.{get_or, set, length-set}
use Rattle.kernel.specs.Fill.{Plane, plane-start, plane-step}
use Rattle.kernel.proofs.schedule.fill_lowest.Goals as goal

pub loop-j-init : goal.loop-j-init
loop-j-init c = (omega arith, c.requires.0, plane-start c.args.starts.now c.args.coefs.now 0 c.args.list.now)

pub loop-j-preserved : goal.loop-j-preserved
loop-j-preserved c = let a = c.args in
    let l = c.loop-j in
    let w = l.invariant.2.few in (
      omega arith,
      length-set l.list _ _ ∙ l.invariant.1,
      subst (λ (z : ℕ). Plane a.starts.now a.coefs.now (l.j + 1) 0 (set l.list z (get_or a.starts.now l.j 0)) (l.c + c.digit-c.result)) (zero-add l.c)
          (plane-step a.starts.now a.coefs.now 0 l.list l.j l.c c.digit-c.result (omega arith) c.digit-c.ensures.0 c.digit-c.ensures.1 l.invariant.2),
    )

pub returns : goal.returns
returns c = let a = c.args in
    let l = c.loop-j in
    let e : l.j ≡ a.n = omega arith in
    subst (λ (z : ℕ). Plane a.starts.now a.coefs.now z 0 l.list l.c) e l.invariant.2
