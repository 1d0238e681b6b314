use mathlib.Core.Path.{◌≡◌}
use Prim.Native.Nat.{◌*◌, ◌≤◌}
use Rattle.lists.specs.Count.{sum}
use Rattle.tally.specs.Walking.{in_tile_of}
use Rattle.tally.proofs.on_target.Given as goal

abbrev pub invariant-loop-tile : goal.invariant-loop-tile
invariant-loop-tile l = (l.tile ≤ l.tile-end) × (l.n ≤ 22 * l.tile) × (l.n ≡ sum (in_tile_of l.y l.r l.target) l.tile)
