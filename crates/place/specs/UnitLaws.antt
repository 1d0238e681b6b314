-- Unit to frame and frame to unit undo each other, and the units of a group lie in one cell after another and on different targets: for any
-- permutation of each tile.
use Rattle.std.specs.Prelude.{◌≡◌, ℕ, ◌+◌, ◌*◌, ◌/◌, ◌%◌, ◌≤◌, ◌<◌}
use Rattle.std.proofs.Math.Path.{sym, ap}
use Rattle.std.proofs.Common.{◌∙◌, subst, lt_of_lt_of_le, arith}
use Rattle.std.proofs.Math.Nat.{mod-lt, mul-add, div-add-mod}
use Rattle.lists.specs.Pick.{below_or_not}
use Rattle.lists.specs.Digits.{div_of, mod_of, digits_below, div_below, close}
use Rattle.lists.specs.Bijection.{Bijection, injective}
use Rattle.place.specs.Units.{Widths, Tiled, in_tile, column_of, frame_of, target_of, at_place, group_at, unit_at}

module _ (y : Widths) (v : Tiled y) where
  targets : 0 < y.p
  targets = lt_of_lt_of_le v.units v.enough

  -- a unit's number is within the tile, and so its row is
  in_tile-lt : (g u : ℕ) → u < y.w → in_tile y g u < y.p * y.l
  in_tile-lt g u h = subst (λ (n : ℕ). in_tile y g u < n) v.whole (digits_below (mod-lt g v.groups) h)

  row_lt : (g u : ℕ) → u < y.w → in_tile y g u / y.p < y.l
  row_lt g u h = div_below (in_tile y g u) y.p y.l targets (in_tile-lt g u h)

  pub frame_tile : (g u : ℕ) → u < y.w → frame_of y g u / y.l ≡ g / y.c
  unfolding frame_of
  frame_tile g u h = div_of y.l (g / y.c) (row_lt g u h)

  pub frame_row : (g u : ℕ) → u < y.w → frame_of y g u % y.l ≡ in_tile y g u / y.p
  unfolding frame_of
  frame_row g u h = mod_of y.l (g / y.c) (row_lt g u h)

  -- of T tiles, a group lies in a frame of those tiles
  pub frame_lt : (T g u : ℕ) → u < y.w → g < y.c * T → frame_of y g u < y.l * T
  unfolding frame_of
  frame_lt T g u h k = digits_below (div_below g y.c T v.groups k) (row_lt g u h)

  pub column-lt : (g u : ℕ) → column_of y g u < y.p
  column-lt g u = mod-lt (in_tile y g u) targets

  -- ---- the unit after

  -- cells counted row by row: a group's units follow each other
  cell_number : (g u : ℕ) → y.p * frame_of y g u + column_of y g u ≡ y.p * (y.l * (g / y.c)) + in_tile y g u
  unfolding frame_of
  cell_number g u = omega (arith, mul-add y.p (y.l * (g / y.c)) (in_tile y g u / y.p), div-add-mod (in_tile y g u) y.p)

  -- so the cell after that of unit u, by this count, is that of unit u + 1
  pub next_cell : (g u f c : ℕ) → c < y.p → y.p * f + c ≡ y.p * frame_of y g u + column_of y g u + 1 → (f ≡ frame_of y g (u + 1)) × (c ≡ column_of y g (u + 1))
  next_cell g u f c h e = (
    sym (div_of y.p f h) ∙ ap (λ (n : ℕ). n / y.p) same ∙ div_of y.p (frame_of y g (u + 1)) (column-lt g (u + 1)),
    sym (mod_of y.p f h) ∙ ap (λ (n : ℕ). n % y.p) same ∙ mod_of y.p (frame_of y g (u + 1)) (column-lt g (u + 1)),
  )
    where
      same : y.p * f + c ≡ y.p * frame_of y g (u + 1) + column_of y g (u + 1)
      same = omega (arith, e, cell_number g u, cell_number g (u + 1))

  module _ (π ρ : ℕ → ℕ → ℕ) (b : (tile : ℕ) → Bijection y.p (π tile) (ρ tile)) where
    pub target_lt : (g u : ℕ) → target_of y π g u < y.p
    unfolding target_of
    target_lt g u = (b (g / y.c)).into (column_of y g u) (column-lt g u)

    -- ---- there and back

    at_place_is : (g u : ℕ) → u < y.w → at_place y ρ (frame_of y g u) (target_of y π g u) ≡ in_tile y g u
    unfolding target_of
    at_place_is g u h =
        ap (λ (r : ℕ). y.p * r + ρ (frame_of y g u / y.l) (target_of y π g u)) (frame_row g u h)
        ∙ ap (λ (k : ℕ). y.p * (in_tile y g u / y.p) + ρ k (target_of y π g u)) (frame_tile g u h)
        ∙ ap (λ (k : ℕ). y.p * (in_tile y g u / y.p) + k) ((b (g / y.c)).back (column_of y g u) (column-lt g u))
        ∙ div-add-mod (in_tile y g u) y.p

    pub group_back : (g u : ℕ) → u < y.w → group_at y ρ (frame_of y g u) (target_of y π g u) ≡ g
    unfolding group_at
    group_back g u h =
        ap (λ (k : ℕ). y.c * k + at_place y ρ (frame_of y g u) (target_of y π g u) / y.w) (frame_tile g u h)
        ∙ ap (λ (x : ℕ). y.c * (g / y.c) + x / y.w) (at_place_is g u h)
        ∙ ap (λ (j : ℕ). y.c * (g / y.c) + j) (div_of y.w (g % y.c) h)
        ∙ div-add-mod g y.c

    pub unit_back : (g u : ℕ) → u < y.w → unit_at y ρ (frame_of y g u) (target_of y π g u) ≡ u
    unfolding unit_at
    unit_back g u h = ap (λ (x : ℕ). x % y.w) (at_place_is g u h) ∙ mod_of y.w (g % y.c) h

    -- ---- back and there

    pub unit_lt : (r t : ℕ) → unit_at y ρ r t < y.w
    unfolding unit_at
    unit_lt r t = mod-lt (at_place y ρ r t) v.units

    at_place-lt : (r t : ℕ) → t < y.p → at_place y ρ r t < y.w * y.c
    at_place-lt r t h = subst (λ (n : ℕ). at_place y ρ r t < n) (sym v.whole) (digits_below (mod-lt r v.rows) ((b (r / y.l)).from t h))

    row_group_lt : (r t : ℕ) → t < y.p → at_place y ρ r t / y.w < y.c
    row_group_lt r t h = div_below (at_place y ρ r t) y.w y.c v.units (at_place-lt r t h)

    group_tile : (r t : ℕ) → t < y.p → group_at y ρ r t / y.c ≡ r / y.l
    unfolding group_at
    group_tile r t h = div_of y.c (r / y.l) (row_group_lt r t h)

    in_tile_is : (r t : ℕ) → t < y.p → in_tile y (group_at y ρ r t) (unit_at y ρ r t) ≡ at_place y ρ r t
    unfolding group_at unit_at
    in_tile_is r t h =
        ap (λ (j : ℕ). y.w * j + at_place y ρ r t % y.w) (mod_of y.c (r / y.l) (row_group_lt r t h))
        ∙ div-add-mod (at_place y ρ r t) y.w

    pub frame_back : (r t : ℕ) → t < y.p → frame_of y (group_at y ρ r t) (unit_at y ρ r t) ≡ r
    unfolding frame_of
    frame_back r t h =
        ap (λ (k : ℕ). y.l * k + in_tile y (group_at y ρ r t) (unit_at y ρ r t) / y.p) (group_tile r t h)
        ∙ ap (λ (x : ℕ). y.l * (r / y.l) + x / y.p) (in_tile_is r t h)
        ∙ ap (λ (x : ℕ). y.l * (r / y.l) + x) (div_of y.p (r % y.l) ((b (r / y.l)).from t h))
        ∙ div-add-mod r y.l

    pub target_back : (r t : ℕ) → t < y.p → target_of y π (group_at y ρ r t) (unit_at y ρ r t) ≡ t
    unfolding target_of
    target_back r t h =
        ap (λ (k : ℕ). π k (in_tile y (group_at y ρ r t) (unit_at y ρ r t) % y.p)) (group_tile r t h)
        ∙ ap (λ (x : ℕ). π (r / y.l) (x % y.p)) (in_tile_is r t h)
        ∙ ap (π (r / y.l)) (mod_of y.p (r % y.l) ((b (r / y.l)).from t h))
        ∙ (b (r / y.l)).forth t h

    pub group_lt : (T r t : ℕ) → t < y.p → r < y.l * T → group_at y ρ r t < y.c * T
    unfolding group_at
    group_lt T r t h k = digits_below (div_below r y.l T v.rows k) (row_group_lt r t h)

    -- ---- no two units of a group share a target

    columns_apart : (g u u' : ℕ) → u ≤ u' → u' < y.w → column_of y g u ≡ column_of y g u' → u ≡ u'
    columns_apart g u u' le h e =
        let enough = v.enough in
        let same : in_tile y g u ≡ in_tile y g u' = close y.p (in_tile y g u) (in_tile y g u') targets (omega arith) (omega arith) e in
        omega arith

    pub targets_apart : (g u u' : ℕ) → u < y.w → u' < y.w → target_of y π g u ≡ target_of y π g u' → u ≡ u'
    unfolding target_of
    targets_apart g u u' h h' e =
        below_or_not u u' (λ (l : u < u'). columns_apart g u u' (omega arith) h' columns) (λ (l : u' ≤ u). sym (columns_apart g u' u l h (sym columns)))
      where
        columns : column_of y g u ≡ column_of y g u'
        columns = injective (b (g / y.c)) (column_of y g u) (column_of y g u') (column-lt g u) (column-lt g u') e
