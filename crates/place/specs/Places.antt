-- "Places" of a layout: each tile's permutation is the generator's.
use Rattle.std.specs.Prelude.{List, ℕ, ◌+◌, ◌*◌, ◌/◌, ◌%◌}
use Rattle.lists.specs.Tabulate.{at}
use Rattle.numbers.specs.declared.Layout.{Layout}
use Rattle.numbers.specs.Layouts.{width, rows, groups}
use Rattle.tile.specs.Permutation.{permutation_of, inverse_of}
use Rattle.place.specs.declared.Cell.{Cell}
use Rattle.place.specs.declared.Place.{Place}
use Rattle.place.specs.declared.Unit.{Unit}
use Rattle.place.specs.Units.{Widths, column_of, frame_of, target_of, group_at, unit_at}

abbrev pub widths_of : Layout → Widths
widths_of y = record { w = width y; p = y.p; l = rows y; c = groups y }

-- the permutation of a tile of the layout: all that stands on permutations knows them by this name
unfoldable pub tile_permutation : Layout → ℕ → List ℕ
tile_permutation y tile = permutation_of y.edition y.p y.cookie tile

-- the target of each column of a tile, and the column of each target
abbrev pub targets_of : Layout → ℕ → ℕ → ℕ
targets_of y tile column = at (tile_permutation y tile) column

abbrev pub columns_of : Layout → ℕ → ℕ → ℕ
columns_of y tile target = at (inverse_of (tile_permutation y tile)) target

-- the cell of unit u of group g
unfoldable pub cell_of : Layout → ℕ → ℕ → Cell
cell_of y g u = record { frame = frame_of (widths_of y) g u; column = column_of (widths_of y) g u }

-- the unit in a column of a row of a tile
unfoldable pub unit_in_row : Layout → ℕ → ℕ → ℕ → Unit
unit_in_row y tile row column = record { group = groups y * tile + (y.p * row + column) / width y; unit = (y.p * row + column) % width y }

-- the place of unit u of group g, and the unit in frame r of target t
unfoldable pub place_of : Layout → ℕ → ℕ → Place
place_of y g u = record { frame = frame_of (widths_of y) g u; target = target_of (widths_of y) (targets_of y) g u }

unfoldable pub unit_of : Layout → ℕ → ℕ → Unit
unit_of y r t = record { group = group_at (widths_of y) (columns_of y) r t; unit = unit_at (widths_of y) (columns_of y) r t }
