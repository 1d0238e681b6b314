-- `kernel::schedule::add_plane`. The loop keeps: the first q runs are added. A turn is `plane_turn`.
use mathlib.Core.Path.{◌≡◌, refl, ◌∙◌, subst}
use Prim.Native.Nat.{ℕ, ◌+◌}
use native.Mathlib.Omega.{arith}
use lib.ListN.{get_or}
use Rattle.field.specs.Byte.{◌⊕◌}
use Rattle.lists.specs.Span.{Span}
use Rattle.kernel.specs.Plan.{picked, plane-none, plane_turn}
use Rattle.kernel.proofs.schedule.add_plane.Goals as goal

pub loop-q-init : goal.loop-q-init
loop-q-init c = let a = c.args in
    (omega arith, c.requires.0, plane-none a.src.now a.list.now a.base a.o a.m a.acc.now)

pub overflow_add-s-in-loop-q : goal.overflow_add-s-in-loop-q
overflow_add-s-in-loop-q c = let a = c.args in
    omega (arith, c.requires.2.ends c.loop-q.q c.loop-q-test.true, c.well_formed)

pub xor_run-requires : goal.xor_run-requires
xor_run-requires c = (c.loop-q.invariant.1, c.requires.1, omega (arith, c.requires.2.ends c.loop-q.q c.loop-q-test.true))

pub loop-q-preserved : goal.loop-q-preserved
loop-q-preserved c = let a = c.args in
    let l = c.loop-q in (
      omega arith,
      c.xor_run.ensures.len ∙ l.invariant.1,
      plane_turn a.src.now a.list.now a.base l.q a.o a.m _ refl l.invariant.2 c.xor_run.ensures,
    )

pub returns : goal.returns
returns c = let a = c.args in
    let l = c.loop-q in
    let e : l.q ≡ a.count = omega arith in
    subst (λ (z : ℕ). Span (λ i. get_or a.acc.now i 0 ⊕ picked a.src.now a.list.now a.base z (a.o + i)) 0 a.m a.acc.now l.acc) e l.invariant.2
