-- The laws of units and places, for a layout.
use Rattle.std.specs.Prelude.{◌≡◌, ℕ, ◌+◌, ◌*◌, ◌/◌, ◌%◌, ◌≤◌, ◌<◌}
use Rattle.std.proofs.Math.Path.{ap}
use Rattle.std.proofs.Common.{◌∙◌, le_refl, arith}
use mathlib.Core.List.{List}
use Rattle.lists.specs.Tabulate.{at}
use Rattle.lists.specs.Bijection.{Bijection}
use Rattle.numbers.specs.declared.Layout.{Layout}
use Rattle.numbers.specs.declared.Shape.{Shape}
use Rattle.numbers.specs.Answers.{Shaped}
use Rattle.numbers.specs.Layouts.{Valid, width, rows, groups, frames, all_groups}
use Rattle.numbers.specs.Shapes.{width-groups-rows, rows_pos, groups_pos}
use Rattle.tile.specs.Permutation.{inverse_of}
use Rattle.place.specs.declared.Cell.{Cell}
use Rattle.place.specs.declared.Place.{Place}
use Rattle.place.specs.Units.{Tiled, target_of, group_at, unit_at}
use Rattle.place.specs.UnitLaws as U
use Rattle.place.specs.Load as L
use Rattle.place.specs.TileLaws.{tile_undone}
use Rattle.place.specs.Places.{widths_of, tile_permutation, targets_of, columns_of, cell_of, unit_in_row, place_of, unit_of}

module _ (y : Layout) (v : Valid y) where
  pub tiled : Tiled (widths_of y)
  tiled = record { units = omega arith; enough = v.enough_targets; rows = rows_pos y v; groups = groups_pos y v; whole = width-groups-rows y v }

  pub tiles : (tile : ℕ) → Bijection y.p (targets_of y tile) (columns_of y tile)
  tiles tile = tile_undone y v tile y.p (le_refl y.p) v.few_targets

  -- the two maps undo each other over the whole pool
  pub there_and_back : (g u : ℕ) → u < width y → unit_of y (place_of y g u).frame (place_of y g u).target ≡ record { group = g; unit = u }
  unfolding place_of unit_of
  there_and_back g u h =
      λ i. record { group = U.group_back (widths_of y) tiled (targets_of y) (columns_of y) tiles g u h i; unit = U.unit_back (widths_of y) tiled (targets_of y) (columns_of y) tiles g u h i }

  pub back_and_there : (r t : ℕ) → t < y.p → place_of y (unit_of y r t).group (unit_of y r t).unit ≡ record { frame = r; target = t }
  unfolding place_of unit_of
  back_and_there r t h =
      λ i. record { frame = U.frame_back (widths_of y) tiled (targets_of y) (columns_of y) tiles r t h i; target = U.target_back (widths_of y) tiled (targets_of y) (columns_of y) tiles r t h i }

  pub cell_in : (g u : ℕ) → u < width y → g < all_groups y → ((cell_of y g u).frame < frames y) × ((cell_of y g u).column < y.p)
  unfolding cell_of
  cell_in g u h k = (U.frame_lt (widths_of y) tiled y.t g u h k, U.column-lt (widths_of y) tiled g u)

  -- the cell counted after that of unit u is that of unit u + 1
  pub next_cell : (g u : ℕ) (a r : Cell) → a ≡ cell_of y g u → r.column < y.p → y.p * r.frame + r.column ≡ y.p * a.frame + a.column + 1 → r ≡ cell_of y g (u + 1)
  unfolding cell_of
  next_cell g u a r e h n =
      let q = U.next_cell (widths_of y) tiled g u r.frame r.column h (n ∙ ap (λ (x : Cell). y.p * x.frame + x.column + 1) e) in
      λ i. record { frame = q.0 i; column = q.1 i }

  -- what the permutation in hand makes of a unit's cell is the unit's place
  pub place_at : (s : Shape) → Shaped y s → (to : List ℕ) (g u : ℕ) (a : Cell) (r : Place) → to ≡ tile_permutation y (g / s.c) → a ≡ cell_of y g u
      → (r.frame ≡ a.frame) × (r.target ≡ at to a.column) → r ≡ place_of y g u
  unfolding cell_of place_of target_of
  place_at s z to g u a r t e h =
      (λ i. record { frame = h.0 i; target = h.1 i })
      ∙ (λ i. record { frame = (e i).frame; target = at (t i) (e i).column })
      ∙ ap (λ (c : ℕ). record { frame = (cell_of y g u).frame; target = targets_of y (g / c) (cell_of y g u).column }) z.c_is

  -- and the unit in a row of the tile whose inverse is in hand, at the target's column there, is the unit in that frame of the target
  pub unit_in_row_lem : (s : Shape) → Shaped y s → (from : List ℕ) (r t : ℕ) → from ≡ inverse_of (tile_permutation y (r / s.l))
      → unit_in_row y (r / s.l) (r % s.l) (at from t) ≡ unit_of y r t
  unfolding unit_in_row unit_of group_at unit_at
  unit_in_row_lem s z from r t e =
      ap (λ (f : List ℕ). unit_in_row y (r / s.l) (r % s.l) (at f t)) e
      ∙ ap (λ (l : ℕ). unit_in_row y (r / l) (r % l) (columns_of y (r / l) t)) z.l_is

  pub place_in : (g u : ℕ) → u < width y → g < all_groups y → ((place_of y g u).frame < frames y) × ((place_of y g u).target < y.p)
  unfolding place_of
  place_in g u h k = (U.frame_lt (widths_of y) tiled y.t g u h k, U.target_lt (widths_of y) tiled (targets_of y) (columns_of y) tiles g u)

  pub unit_in_lem : (r t : ℕ) → t < y.p → r < frames y → ((unit_of y r t).group < all_groups y) × ((unit_of y r t).unit < width y)
  unfolding unit_of
  unit_in_lem r t h k = (U.group_lt (widths_of y) tiled (targets_of y) (columns_of y) tiles y.t r t h k, U.unit_lt (widths_of y) tiled (targets_of y) (columns_of y) tiles r t)

  -- no two units of a group share a target
  pub apart : (g u u' : ℕ) → u < width y → u' < width y → (place_of y g u).target ≡ (place_of y g u').target → u ≡ u'
  unfolding place_of
  apart = U.targets_apart (widths_of y) tiled (targets_of y) (columns_of y) tiles

  -- a whole tile gives every target L units; the loads of two targets differ by at most L
  pub tile_load : (t : ℕ) → t < y.p → (k : ℕ) → L.load (widths_of y) (targets_of y) t (groups y * k) ≡ rows y * k
  tile_load t h = L.load_tiles (widths_of y) tiled (targets_of y) (columns_of y) tiles t h

  pub load_near : (n t t' : ℕ) → t < y.p → t' < y.p → L.load (widths_of y) (targets_of y) t n ≤ L.load (widths_of y) (targets_of y) t' n + rows y
  load_near = L.loads_near (widths_of y) tiled (targets_of y) (columns_of y) tiles
