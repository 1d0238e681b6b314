-- `pool_list::first_outside` meets its contract: before range i all ranges are inside.
use mathlib.Core.Path.{◌≡◌, sym, ap, ◌∙◌}
use Prim.Native.Nat.{ℕ, ◌≤◌}
use native.Mathlib.Nat.{not-suc-le-zero}
use native.Mathlib.Omega.{arith}
use Rattle.lists.specs.Pick.{below_or_not}
use Rattle.checks.specs.Tests.{inside_of}
use Rattle.pool_list.specs.Ranges.{range_offset, range_size}
use Rattle.lists.specs.First.{failing_at, failing_none}
use Rattle.pool_list.proofs.first_outside.Goals as goal

pub loop-i-init : goal.loop-i-init
loop-i-init c = (omega arith, λ k b. absurd (not-suc-le-zero b))

pub overflow_add-result : goal.overflow_add-result
overflow_add-result c = omega (arith, c.requires, c.loop-i-test.true)

pub returns-then-not-is_inside-clause-some : goal.returns-then-not-is_inside-clause-some
returns-then-not-is_inside-clause-some c = let i = c.loop-i.i in
    let f = failing_at _ _ i c.loop-i-test.true c.loop-i.invariant.1 (sym c.is_inside.ensures ∙ c.if-not-is_inside.true) in
    (omega arith, omega (arith, f))

pub loop-i-preserved : goal.loop-i-preserved
loop-i-preserved c = let s = c.args in
    let i = c.loop-i.i in (
      omega (arith, c.loop-i-test.true),
      λ k b.
          below_or_not k i (c.loop-i.invariant.1 k)
          (λ (h : i ≤ k).
          let e : k ≡ i = omega (arith, h, b) in
          ap (λ (n : ℕ). inside_of s.capacity (range_offset s.ranges.now n) (range_size s.ranges.now n)) e
          ∙ sym c.is_inside.ensures ∙ c.if-not-is_inside.false),
    )

pub returns-clause-none : goal.returns-clause-none
returns-clause-none c = λ e. failing_none _ _ (λ k b. c.loop-i.invariant.1 k (omega (arith, b, c.loop-i-test.false)))
