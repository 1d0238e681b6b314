-- What the code is handed to work out a place or a unit, and that its arithmetic fits.
use Rattle.std.specs.Prelude.{◌≡◌, List, ℕ, ◌+◌, ◌*◌, ◌/◌, ◌%◌, ◌≤◌, ◌<◌}
use Rattle.std.proofs.Common.{sym, subst, mul-le-mul, mod-lt, div-le_self, arith}
use Rattle.lists.specs.Tabulate.{at}
use Rattle.lists.specs.Digits.{div_below}
use Rattle.numbers.specs.declared.Layout.{Layout}
use Rattle.numbers.specs.declared.Shape.{Shape}
use Rattle.numbers.specs.Layouts.{Valid, width, frames, all_groups}
use Rattle.numbers.specs.Answers.{Shaped}
use Rattle.tile.specs.Permutation.{inverse_of}
use Rattle.place.specs.declared.Place.{Place}
use Rattle.place.specs.Places.{tile_permutation}
use Rattle.place.specs.PlaceLaws.{tiles}

pub record Holding (y : Layout) (s : Shape) (from : List ℕ) (r t : ℕ) : Type 0 where
  pub valid : Valid y
  pub shape : Shaped y s
  pub tile : from ≡ inverse_of (tile_permutation y (r / s.l))
  pub frame : r < frames y
  pub target : t < y.p

-- the bounds of what stands on the way to a cell
pub record CellFits (y : Layout) (s : Shape) (g u : ℕ) : Type 0 where
  pub width_few : s.w ≤ 22
  pub row : s.w * (g % s.c) ≤ 1408
  pub frame : s.l * (g / s.c) ≤ 1441792
  pub row_frame : (s.w * (g % s.c) + u) / y.p ≤ s.w * (g % s.c) + u

pub cell_fits : (y : Layout) (s : Shape) (g u : ℕ) → Valid y × Shaped y s × (g < all_groups y) × (u < width y) → CellFits y s g u
cell_fits y s g u a =
    let v = a.0 in
    let z = a.1 in
    let wide : s.w ≤ 22 = omega arith in
    let row : g % s.c ≤ 64 = omega (arith, mod-lt g z.c_some) in
    let tile : g / s.c ≤ 65536 = omega (arith, div_below g s.c y.t z.c_some (subst (λ (c : ℕ). g < c * y.t) (sym z.c_is) a.2)) in
    record {
      width_few = wide;
      row = omega (arith, mul-le-mul wide row);
      frame = omega (arith, mul-le-mul z.l_few tile);
      row_frame = div-le_self (s.w * (g % s.c) + u) y.p;
    }

-- the same on the way from a column of a row of a tile to a unit
pub record RowFits (y : Layout) (s : Shape) (tile row column : ℕ) : Type 0 where
  pub width_some : 0 < s.w
  pub before-row : y.p * row ≤ 1408
  pub before_tile : s.c * tile ≤ 4194304
  pub row_group : (y.p * row + column) / s.w ≤ y.p * row + column

pub row_fits : (y : Layout) (s : Shape) (tile row column : ℕ) → Valid y × Shaped y s × (tile < y.t) × (row < s.l) × (column < y.p) → RowFits y s tile row column
row_fits y s tile row column a =
    let v = a.0 in
    let z = a.1 in
    let rows : row ≤ 22 = omega arith in
    let tiles : tile ≤ 65536 = omega arith in
    record {
      width_some = omega arith;
      before-row = omega (arith, mul-le-mul v.few_targets rows);
      before_tile = omega (arith, mul-le-mul z.c-few tiles);
      row_group = div-le_self (y.p * row + column) s.w;
    }

-- a frame's tile and row, and a target's column in it
pub holding_row : (y : Layout) (s : Shape) (from : List ℕ) (r t : ℕ) → Holding y s from r t
    → Valid y × Shaped y s × (r / s.l < y.t) × (r % s.l < s.l) × (at from t < y.p)
holding_row y s from r t a =
    let z = a.shape in (
      a.valid,
      z,
      div_below r s.l y.t z.l_some (subst (λ (l : ℕ). r < l * y.t) (sym z.l_is) a.frame),
      mod-lt r z.l_some,
      subst (λ (l : List ℕ). at l t < y.p) (sym a.tile) ((tiles y a.valid (r / s.l)).from t a.target),
    )

-- the same on the way to a byte of the image
pub record SpotFits (y : Layout) (l : ℕ) (a : Place) : Type 0 where
  pub frames : l * y.t ≤ 1441792
  pub drive : l * y.t * y.u ≤ 5905580032
  pub before : a.target * (l * y.t * y.u) ≤ 377957122048
  pub within : a.frame * y.u ≤ 5905580032

pub spot_fits : (y : Layout) → Valid y → (l : ℕ) (a : Place) → l ≤ 22 → a.target < y.p → a.frame < l * y.t → SpotFits y l a
spot_fits y v l a hl ht hf =
    let frames : l * y.t ≤ 1441792 = omega (arith, mul-le-mul hl v.few_tiles) in
    let drive : l * y.t * y.u ≤ 5905580032 = omega (arith, mul-le-mul frames v.few_bytes) in
    let target : a.target ≤ 64 = omega arith in
    let frame : a.frame ≤ 1441792 = omega arith in
    record {
      frames = frames;
      drive = drive;
      before = omega (arith, mul-le-mul target drive);
      within = omega (arith, mul-le-mul frame v.few_bytes);
    }
