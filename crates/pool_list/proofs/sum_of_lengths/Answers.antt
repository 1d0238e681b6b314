-- `pool_list::sum_of_lengths` meets its contract: before range i the lengths of those before it are summed.
use mathlib.Core.Path.{refl, sym, ap, ◌∙◌}
use Prim.Native.Nat.{ℕ, ◌+◌}
use native.Mathlib.Omega.{arith}
use Rattle.lists.specs.Count.{sum, sum_next, sum-le}
use Rattle.pool_list.specs.Ranges.{range_size}
use Rattle.pool_list.proofs.sum_of_lengths.Goals as goal

pub loop-i-init : goal.loop-i-init
unfolding sum
loop-i-init c = (refl, omega arith)

pub overflow_add-total : goal.overflow_add-total
overflow_add-total c = let i = c.loop-i.i in
    let few = sum-le (range_size c.args.ranges.now) 274877906944 i (λ k h. c.requires.1 k (omega (arith, h, c.loop-i-test.true))) in
    omega (arith, few, c.requires.1 i c.loop-i-test.true, c.loop-i.invariant.0, c.requires.0, c.loop-i-test.true)

pub loop-i-preserved : goal.loop-i-preserved
loop-i-preserved c = let s = c.args in
    let i = c.loop-i.i in
    (ap (λ (n : ℕ). n + range_size s.ranges.now i) c.loop-i.invariant.0 ∙ sym (sum_next (range_size s.ranges.now) i), omega (arith, c.loop-i-test.true))

pub returns : goal.returns
returns c = c.loop-i.invariant.0 ∙ ap (sum (range_size c.args.ranges.now)) (omega (arith, c.loop-i.invariant.1, c.loop-i-test.false))
