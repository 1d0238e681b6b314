use mathlib.Core.Path.{◌≡◌}
use Prim.Native.Nat.{◌≤◌}
use Rattle.tally.specs.Walking.{in_rows}
use Rattle.tally.proofs.in_tile.Given as goal

abbrev pub invariant-loop-row : goal.invariant-loop-row
invariant-loop-row l = (l.row ≤ l.row-end) × (l.n ≤ l.row) × (l.n ≡ in_rows l.y l.r l.target l.tile l.row)
