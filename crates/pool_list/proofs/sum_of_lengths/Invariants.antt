use mathlib.Core.Path.{◌≡◌}
use Prim.Native.Nat.{◌≤◌}
use lib.ListN.{length}
use Rattle.lists.specs.Count.{sum}
use Rattle.pool_list.specs.Ranges.{range_size}
use Rattle.pool_list.proofs.sum_of_lengths.Given as goal

abbrev pub invariant-loop-i : goal.invariant-loop-i
invariant-loop-i l = (l.total ≡ sum (range_size l.ranges) l.i) × (l.i ≤ length l.ranges)
