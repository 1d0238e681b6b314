use mathlib.Core.Path.{◌≡◌}
use Prim.Native.Nat.{◌≤◌}
use lib.ListN.{length}
use Rattle.lists.specs.Count.{sum}
use Rattle.pool_list.specs.Ranges.{range_size, after_ranges}
use Rattle.pool_list.proofs.write_ranges.Given as goal

abbrev pub invariant-loop-i : goal.invariant-loop-i
invariant-loop-i l = (l.image ≡ after_ranges l.y l.r l.initial.image l.ranges l.bytes l.i) × (l.at ≡ sum (range_size l.ranges) l.i) × (l.i ≤ length l.ranges)
