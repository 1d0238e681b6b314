-- The walk over one target: what it is handed, and how far it has come.
use Rattle.std.specs.Prelude.{◌≡◌, false, List, ℕ, ◌+◌, ◌*◌, ◌<◌}
use Rattle.lists.specs.Count.{count}
use Rattle.numbers.specs.declared.Layout.{Layout}
use Rattle.numbers.specs.declared.Shape.{Shape}
use Rattle.numbers.specs.Layouts.{Valid, width, rows}
use Rattle.numbers.specs.Answers.{Shaped}
use Rattle.place.specs.declared.Unit.{Unit}
use Rattle.homes.specs.declared.Record.{Record}
use Rattle.homes.specs.Listed.{listed}
use Rattle.homes.specs.Records.{entry, Good}
use Rattle.homes.specs.Missing.{target_at}
use Rattle.homes.specs.Standing.{InTile}
use Rattle.pool.specs.FrameCount.{home_in}

-- the target is none of the repaired ones
pub record Walking (y : Layout) (s : Shape) (R : Record) (target : ℕ) : Type 0 where
  pub valid : Valid y
  pub shape : Shaped y s
  pub good : Good y R
  pub target_lt : target < y.p
  pub unrepaired : listed (entry R) R.q target ≡ false

-- at a unit of it, with the permutation of the unit's tile in hand
pub record Here (y : Layout) (s : Shape) (R : Record) (to : List ℕ) (a : Unit) : Type 0 where
  pub good : Good y R
  pub tile : InTile y s to a.group
  pub unit_lt : a.unit < width y
  pub unrepaired : listed (entry R) R.q (target_at y a.group a.unit) ≡ false

-- in the first n rows of a tile, and in all of them
abbrev pub in_rows : Layout → Record → ℕ → ℕ → ℕ → ℕ
in_rows y R target tile n = count (λ i. home_in y R target (rows y * tile + i)) n

abbrev pub in_tile_of : Layout → Record → ℕ → ℕ → ℕ
in_tile_of y R target tile = in_rows y R target tile (rows y)
