-- Demand 2, placement: "Unit to frame and frame to unit undo each other over the whole pool, no two units of one group share a drive".
-- Each theorem says what it says for every layout within the bounds.
use Rattle.std.specs.Prelude.{◌≡◌, ℕ, ◌+◌, ◌*◌, ◌^◌, ◌≤◌, ◌<◌}
use Rattle.std.specs.Int.{◌∣◌}
use Rattle.std.proofs.Common.{arith}
use Rattle.lists.specs.Tabulate.{at}
use Rattle.lists.specs.Bijection.{Bijection}
use Rattle.lists.specs.Count.{sum}
use Rattle.numbers.specs.declared.Layout.{Layout}
use Rattle.numbers.specs.Layouts.{Valid, width, block, rows, groups, frames, all_groups, capacity, image_length}
use Rattle.numbers.specs.Shapes.{width-groups, targets_rows, block_multiple, block_least, layout_products}
use Rattle.tile.specs.Permutation.{inverse_of}
use Rattle.place.specs.Units.{Widths, Tiled, frame_of, target_of, group_at, unit_at}
use Rattle.place.specs.UnitLaws as U
use Rattle.place.specs.Load as L
use Rattle.place.specs.Places.{widths_of, tile_permutation, targets_of, columns_of, place_of, unit_of}
use Rattle.place.specs.TileLaws.{tile_above}
use Rattle.place.specs.PlaceLaws as P
use Rattle.place.specs.Bytes.{group_of, unit_in, byte_in, offset_of, spot, image_byte, unit_here, offset_here}
use Rattle.place.specs.ByteLaws as B

-- ---- for ANY permutation π of each tile with the ρ that undoes it, on 0 .. P-1: the generator does not enter

module _ (y : Widths) (tiled : Tiled y) (π ρ : ℕ → ℕ → ℕ) (undo : (tile : ℕ) → Bijection y.p (π tile) (ρ tile)) where
  -- unit to frame to unit
  pub any-there_and_back : (g u : ℕ) → u < y.w → (group_at y ρ (frame_of y g u) (target_of y π g u) ≡ g) × (unit_at y ρ (frame_of y g u) (target_of y π g u) ≡ u)
  any-there_and_back g u h = (U.group_back y tiled π ρ undo g u h, U.unit_back y tiled π ρ undo g u h)

  -- frame to unit to frame
  pub any_back_and_there : (r t : ℕ) → t < y.p → (frame_of y (group_at y ρ r t) (unit_at y ρ r t) ≡ r) × (target_of y π (group_at y ρ r t) (unit_at y ρ r t) ≡ t)
  any_back_and_there r t h = (U.frame_back y tiled π ρ undo r t h, U.target_back y tiled π ρ undo r t h)

  -- two units of one group never lie on one target
  pub any_apart : (g u u' : ℕ) → u < y.w → u' < y.w → target_of y π g u ≡ target_of y π g u' → u ≡ u'
  any_apart = U.targets_apart y tiled π ρ undo

  -- "a whole tile gives every target exactly L units": tile k itself, whose groups are those from C·k on
  pub any-whole_tile : (t : ℕ) → t < y.p → (k : ℕ) → sum (λ j. L.units_on y π t (y.c * k + j)) y.c ≡ y.l
  any-whole_tile t h = L.whole_tile y tiled π ρ undo t h

  -- so k whole tiles give it L·k; over the first n groups two targets' counts differ by at most L
  pub any-whole_tiles : (t : ℕ) → t < y.p → (k : ℕ) → L.load y π t (y.c * k) ≡ y.l * k
  any-whole_tiles t h = L.load_tiles y tiled π ρ undo t h

  pub any_near : (n t t' : ℕ) → t < y.p → t' < y.p → L.load y π t n ≤ L.load y π t' n + y.l
  any_near = L.loads_near y tiled π ρ undo

-- ---- for a layout

module _ (y : Layout) (valid : Valid y) where
  -- W·C = P·L = B
  pub shape : (width y * groups y ≡ block y) × (y.p * rows y ≡ block y)
  shape = (width-groups y valid, targets_rows y valid)

  -- B is a common multiple of W and P, and the least: it divides every other
  pub least_common_multiple : ((width y ∣ block y) × (y.p ∣ block y)) × ((m : ℕ) → width y ∣ m → y.p ∣ m → block y ∣ m)
  least_common_multiple = (block_multiple y valid, block_least y valid)

  -- every number that follows fits 64 bits
  pub all_fit : (frames y < 2 ^ 64) × (all_groups y < 2 ^ 64) × (capacity y < 2 ^ 64) × (image_length y < 2 ^ 64)
  all_fit = let p = layout_products y valid in (omega (arith, p.frames), omega (arith, p.groups), omega (arith, p.capacity), omega (arith, p.image))

  -- a tile's permutation is a bijection of 0 .. P-1, and the inverse undoes it both ways; entries from P on are their own index
  pub permutation_undone : (tile : ℕ) → Bijection y.p (at (tile_permutation y tile)) (at (inverse_of (tile_permutation y tile)))
  permutation_undone = P.tiles y valid

  pub permutation_above : (tile t : ℕ) → y.p ≤ t → t < 64 → at (tile_permutation y tile) t ≡ t
  permutation_above = tile_above y valid

  -- over the whole pool: a unit's place is in the pool, and the unit there is that unit
  pub there_and_back : (g u : ℕ) → g < all_groups y → u < width y
      → (((place_of y g u).frame < frames y) × ((place_of y g u).target < y.p)) × (unit_of y (place_of y g u).frame (place_of y g u).target ≡ record { group = g; unit = u })
  there_and_back g u hg hu = (P.place_in y valid g u hu hg, P.there_and_back y valid g u hu)

  -- and a place's unit is a unit of the pool, and its place is that place
  pub back_and_there : (r t : ℕ) → r < frames y → t < y.p
      → (((unit_of y r t).group < all_groups y) × ((unit_of y r t).unit < width y)) × (place_of y (unit_of y r t).group (unit_of y r t).unit ≡ record { frame = r; target = t })
  back_and_there r t hr ht = (P.unit_in_lem y valid r t ht hr, P.back_and_there y valid r t ht)

  -- no two units of one group share a drive
  pub drives_apart : (g u u' : ℕ) → u < width y → u' < width y → (place_of y g u).target ≡ (place_of y g u').target → u ≡ u'
  drives_apart = P.apart y valid

  -- different (group, unit, byte) are different bytes of the image: each is found again from its image byte
  pub bytes_apart : (g u o : ℕ) → g < all_groups y → u < width y → o < y.u
      → (spot y g u o < image_length y) × (unit_here y (spot y g u o) ≡ record { group = g; unit = u }) × (offset_here y (spot y g u o) ≡ o)
  bytes_apart g u o hg hu ho = (B.spot_in y valid g u o hg hu ho, B.unit_there y valid g u o hg hu ho, B.offset_there y valid g u o hg hu ho)

  -- and every byte of the image is some (group, unit, byte)
  pub bytes_all : (x : ℕ) → x < image_length y
      → ((unit_here y x).group < all_groups y) × ((unit_here y x).unit < width y) × (offset_here y x < y.u)
      × (spot y (unit_here y x).group (unit_here y x).unit (offset_here y x) ≡ x)
  bytes_all x h = (B.group_here-lt y valid x h, B.unit_here-lt y valid x h, B.offset_here-lt y valid x, B.spot-here y valid x h)

  -- a file offset is one byte of one data unit, and different offsets are different image bytes
  pub offset_there_and_back : (x : ℕ) → x < capacity y
      → (group_of y x < all_groups y) × (unit_in y x < y.n) × (byte_in y x < y.u) × (offset_of y (group_of y x) (unit_in y x) (byte_in y x) ≡ x)
  offset_there_and_back x h = (B.group_lt y valid x h, B.unit_lt y valid x, B.byte_lt y valid x, B.offset_is y valid x)

  -- and each byte of each data unit is that of one file offset
  pub offset_back_and_there : (g c o : ℕ) → g < all_groups y → c < y.n → o < y.u
      → (offset_of y g c o < capacity y) × (group_of y (offset_of y g c o) ≡ g) × (unit_in y (offset_of y g c o) ≡ c) × (byte_in y (offset_of y g c o) ≡ o)
  offset_back_and_there g c o hg hc ho =
      (B.offset_lt y valid g c o hg hc ho, B.offset_group y valid g c o hc ho, B.offset_unit y valid g c o hc ho, B.offset_byte y valid g c o hc ho)

  pub offsets_apart : (x x' : ℕ) → x < capacity y → x' < capacity y → image_byte y x ≡ image_byte y x' → x ≡ x'
  offsets_apart = B.image_apart y valid

  -- "a whole tile gives every target exactly L units": tile k itself, whose groups are those from C·k on
  pub whole_tile : (t : ℕ) → t < y.p → (k : ℕ) → sum (λ j. L.units_on (widths_of y) (targets_of y) t (groups y * k + j)) (groups y) ≡ rows y
  whole_tile t h = L.whole_tile (widths_of y) (P.tiled y valid) (targets_of y) (columns_of y) (P.tiles y valid) t h

  -- so the first k tiles give it L·k; over the first n groups the unit counts of two targets differ by at most L
  pub whole_tiles : (t : ℕ) → t < y.p → (k : ℕ) → L.load (widths_of y) (targets_of y) t (groups y * k) ≡ rows y * k
  whole_tiles = P.tile_load y valid

  pub near : (n t t' : ℕ) → t < y.p → t' < y.p → L.load (widths_of y) (targets_of y) t n ≤ L.load (widths_of y) (targets_of y) t' n + rows y
  near = P.load_near y valid
