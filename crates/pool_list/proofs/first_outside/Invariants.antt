use mathlib.Core.Path.{◌≡◌}
use mathlib.Core.Bool.{true}
use Prim.Native.Nat.{ℕ, ◌≤◌, ◌<◌}
use lib.ListN.{length}
use Rattle.checks.specs.Tests.{inside_of}
use Rattle.pool_list.specs.Ranges.{range_offset, range_size}
use Rattle.pool_list.proofs.first_outside.Given as goal

abbrev pub invariant-loop-i : goal.invariant-loop-i
invariant-loop-i l = (l.i ≤ length l.ranges) × ((k : ℕ) → k < l.i → inside_of l.capacity (range_offset l.ranges k) (range_size l.ranges k) ≡ true)
