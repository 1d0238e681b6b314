use mathlib.Core.Path.{◌≡◌}
use Prim.Native.Nat.{◌-◌, ◌≤◌}
use lib.ListN.{length}
use Rattle.numbers.specs.Layouts.{all_groups}
use Rattle.place.specs.Places.{tile_permutation}
use Rattle.pool_swap.specs.Groups.{swapped_below}
use Rattle.pool_swap.proofs.swap_groups.Given as goal

abbrev pub invariant-loop-g : goal.invariant-loop-g
invariant-loop-g l =
    (l.g ≤ all_groups l.y) × (length l.image ≡ length l.initial.image) × (length l.scratch ≡ 12288)
    × (l.to ≡ tile_permutation l.y l.tile) × (l.image ≡ swapped_below l.y l.r l.target l.initial.image l.g)
