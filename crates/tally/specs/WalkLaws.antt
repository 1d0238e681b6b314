-- What each turn of the walk shows.
use Rattle.std.specs.Prelude.{◌≡◌, refl, Bool, true, false, List, ℕ, ◌+◌, ◌*◌, ◌/◌, ◌≤◌, ◌<◌, ltb, length}
use Rattle.std.proofs.Common.{sym, ap, ◌∙◌, subst, arith, le-ltb}
use Rattle.lists.specs.Pick.{bit, pick-false}
use Rattle.lists.specs.Tabulate.{at}
use Rattle.lists.specs.Digits.{div_of, mod_of, digits_below}
use Rattle.lists.specs.Count.{sum, count_blocks, count_next}
use Rattle.numbers.specs.declared.Layout.{Layout}
use Rattle.numbers.specs.declared.Shape.{Shape}
use Rattle.numbers.specs.Layouts.{Valid, width, rows, groups, frames, contents}
use Rattle.tile.specs.Permutation.{inverse_of}
use Rattle.tile.specs.Laws.{Permutes}
use Rattle.place.specs.declared.Place.{Place}
use Rattle.place.specs.declared.Unit.{Unit}
use Rattle.place.specs.UnitLaws.{frame_tile}
use Rattle.place.specs.TileLaws.{tile_length, tile_permutes}
use Rattle.place.specs.Places.{tile_permutation, widths_of, columns_of, place_of, unit_in_row, unit_of}
use Rattle.place.specs.PlaceLaws.{tiled, tiles, unit_in_lem, unit_in_row_lem, back_and_there}
use Rattle.homes.specs.declared.Record.{Record}
use Rattle.homes.specs.Listed.{listed, listed_same}
use Rattle.homes.specs.Records.{entry}
use Rattle.homes.specs.Missing.{home}
use Rattle.homes.specs.Standing.{TargetsAre, Standing, HomesAre}
use Rattle.homes.proofs.StandingLaws.{standing_of, homes_are}
use Rattle.pool.specs.Counting.{on_target}
use Rattle.pool.specs.Elsewhere.{is_home}
use Rattle.pool.specs.FrameCount.{home_in}
use Rattle.pool.proofs.FrameCountLaws.{own_home, home_test, unrepaired_home, on_target_by_frames, on_target_few}
use Rattle.tally.specs.Walking.{Walking, Here, in_rows, in_tile_of}

-- ---- a unit

module _ (y : Layout) (s : Shape) (R : Record) (to : List ℕ) (a : Unit) (h : Here y s R to a) where
  pub own-place : a.unit < contents y → true ≡ is_home y R a.group a.unit
  own-place l = sym (own_home y R a.group a.unit h.unrepaired l)

  pub bare_spare : contents y ≤ a.unit → R.q ≡ 0 → false ≡ is_home y R a.group a.unit
  bare_spare l z = sym (unrepaired_home y R z a.group a.unit l)

  few : R.q ≤ y.k
  few = omega (arith, h.good.few, h.good.mended)

  module _ (targets : List ℕ) (are : TargetsAre y a.group targets) where
    pub can_stand : (j : ℕ) → j ≤ R.k → Standing targets (contents y) y.k j
    can_stand j le = standing_of y h.tile.valid a.group targets are j (omega (arith, le, h.good.few))

    pub by_homes : contents y ≤ a.unit → (r : List ℕ) → HomesAre targets (contents y) y.k R.failed R.q r
        → (b : Bool) → b ≡ listed (at r) (contents y) a.unit → b ≡ is_home y R a.group a.unit
    by_homes l r hr b e =
        e
        ∙ listed_same (at r) (home y R R.q a.group) (contents y) a.unit (homes_are y h.tile.valid a.group targets are R R.q few r hr)
        ∙ sym (home_test y R a.group a.unit h.unrepaired ∙ pick-false (ltb a.unit (contents y)) true _ (le-ltb a.unit (contents y) l))

-- ---- a frame

-- the unit in a frame lies in the frame's tile
group_tile : (y : Layout) → Valid y → (r t : ℕ) → t < y.p → r < frames y → (unit_of y r t).group / groups y ≡ r / rows y
unfolding place_of
group_tile y v r t ht hr =
    sym (frame_tile (widths_of y) (tiled y v) (unit_of y r t).group (unit_of y r t).unit (unit_in_lem y v r t ht hr).1)
    ∙ ap (λ (a : Place). a.frame / rows y) (back_and_there y v r t ht)

-- the target's column is found in the permutation of the tile
module _ (y : Layout) (s : Shape) (R : Record) (t : ℕ) (w : Walking y s R t) (tile : ℕ) (to : List ℕ) (e : to ≡ tile_permutation y tile) where
  pub can_search : (length to ≡ 64) × Permutes 64 to × (t < 64)
  can_search =
      subst (λ (l : List ℕ). (length l ≡ 64) × Permutes 64 l × (t < 64)) (sym e) (
        tile_length y w.valid tile,
        tile_permutes y w.valid tile,
        omega (arith, w.target_lt),
      )

  pub column_is : (column : ℕ) → column ≡ at (inverse_of to) t → column ≡ columns_of y tile t
  column_is column q = q ∙ ap (λ (l : List ℕ). at (inverse_of l) t) e

  pub column-lt : (column : ℕ) → column ≡ at (inverse_of to) t → column < y.p
  column-lt column q = subst (λ (x : ℕ). x < y.p) (sym (column_is column q)) ((tiles y w.valid tile).from t w.target_lt)

module _ (y : Layout) (s : Shape) (R : Record) (t : ℕ) (w : Walking y s R t) (tile row : ℕ) (ht : tile < y.t) (hr : row < s.l) where
  row_lt : row < rows y
  row_lt = omega (arith, hr, w.shape.l_is)

  pub frame_in : s.l * tile + row < frames y
  frame_in = subst (λ (l : ℕ). l * tile + row < frames y) (sym w.shape.l_is) (digits_below ht row_lt)

  -- the unit in the row, at the target's column, is the unit in the frame
  pub unit_there : (column : ℕ) → column ≡ columns_of y tile t → unit_in_row y tile row column ≡ unit_of y (s.l * tile + row) t
  unit_there column q =
      ap (unit_in_row y tile row) q
      ∙ sym (λ i. unit_in_row y (div_of s.l tile hr i) (mod_of s.l tile hr i) (columns_of y (div_of s.l tile hr i) t))
      ∙ unit_in_row_lem y w.valid s w.shape (inverse_of (tile_permutation y ((s.l * tile + row) / s.l))) (s.l * tile + row) t refl

  pub unit_here_lem : (to : List ℕ) → to ≡ tile_permutation y tile → (a : Unit) → a ≡ unit_of y (s.l * tile + row) t → Here y s R to a
  unit_here_lem to e a q =
      subst (λ (x : Unit). Here y s R to x) (sym q)
      (record {
        good = w.good;
        tile =
            record {
              valid = w.valid;
              shape = w.shape;
              tile =
                  e
                  ∙ ap (tile_permutation y)
                  (sym (ap (λ (c : ℕ). (unit_of y (s.l * tile + row) t).group / c) w.shape.c_is
                  ∙ group_tile y w.valid (s.l * tile + row) t w.target_lt frame_in
                  ∙ ap (λ (l : ℕ). (s.l * tile + row) / l) (sym w.shape.l_is)
                  ∙ div_of s.l tile hr));
              group = inside.0;
            };
        unit_lt = inside.1;
        unrepaired = ap (λ (x : Place). listed (entry R) R.q x.target) (back_and_there y w.valid (s.l * tile + row) t w.target_lt) ∙ w.unrepaired;
      })
    where
      inside : ((unit_of y (s.l * tile + row) t).group < groups y * y.t) × ((unit_of y (s.l * tile + row) t).unit < width y)
      inside = unit_in_lem y w.valid (s.l * tile + row) t w.target_lt frame_in

  -- a turn: one more where the unit is a home
  pub row_turn : (n d : ℕ) (b : Bool) (a : Unit) → n ≡ in_rows y R t tile row → a ≡ unit_of y (s.l * tile + row) t → b ≡ is_home y R a.group a.unit → d ≡ bit b
      → n + d ≡ in_rows y R t tile (row + 1)
  row_turn n d b a en ea eb ed =
      (λ i. en i + (ed ∙ ap bit (eb ∙ ap (λ (x : Unit). is_home y R x.group x.unit) ea ∙ ap (λ (l : ℕ). home_in y R t (l * tile + row)) w.shape.l_is)) i)
      ∙ sym (count_next (λ i. home_in y R t (rows y * tile + i)) row)

-- ---- tile after tile

pub tiles_done : (y : Layout) (s : Shape) (R : Record) (t : ℕ) → Walking y s R t → sum (in_tile_of y R t) y.t ≡ on_target y R t
tiles_done y s R t w =
    count_blocks (home_in y R t) (rows y) y.t ∙ sym (on_target_by_frames y w.valid R w.good t w.target_lt)

pub walk-few : (y : Layout) (s : Shape) (R : Record) (t : ℕ) → Walking y s R t → on_target y R t ≤ frames y
walk-few y s R t w = on_target_few y w.valid R w.good t w.target_lt

pub rows-done : (y : Layout) (s : Shape) (R : Record) (t tile row n : ℕ) → Walking y s R t → n ≡ in_rows y R t tile row → row ≡ s.l → n ≡ in_tile_of y R t tile
rows-done y s R t tile row n w e z = e ∙ ap (in_rows y R t tile) (z ∙ w.shape.l_is)
