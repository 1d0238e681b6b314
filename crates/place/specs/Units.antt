-- "Places", over four numbers and any permutation of each tile: the generator plays no part.
use Rattle.std.specs.Prelude.{◌≡◌, ℕ, ◌+◌, ◌*◌, ◌/◌, ◌%◌, ◌≤◌, ◌<◌}

-- W units in a group, P targets, L rows and C groups in a tile
pub record Widths : Type 0 where
  pub w : ℕ
  pub p : ℕ
  pub l : ℕ
  pub c : ℕ

pub record Tiled (y : Widths) : Type 0 where
  pub units : 0 < y.w
  pub enough : y.w ≤ y.p
  pub rows : 0 < y.l
  pub groups : 0 < y.c
  pub whole : y.w * y.c ≡ y.p * y.l

-- "Group g lies in tile g div C, row j = g mod C. With x = W·j + u": the number of unit u of group g within its tile
abbrev pub in_tile : Widths → ℕ → ℕ → ℕ
in_tile y g u = y.w * (g % y.c) + u

-- "row x div P, column x mod P; frame = L·tile + x div P, target = permutation(column)"; π is the permutation of each tile
abbrev pub column_of : Widths → ℕ → ℕ → ℕ
column_of y g u = in_tile y g u % y.p

unfoldable pub frame_of : Widths → ℕ → ℕ → ℕ
frame_of y g u = y.l * (g / y.c) + in_tile y g u / y.p

unfoldable pub target_of : Widths → (ℕ → ℕ → ℕ) → ℕ → ℕ → ℕ
target_of y π g u = π (g / y.c) (column_of y g u)

-- "The inverse turns each step back": the number within its tile of what lies in frame r of target t; ρ is the inverse of each permutation
abbrev pub at_place : Widths → (ℕ → ℕ → ℕ) → ℕ → ℕ → ℕ
at_place y ρ r t = y.p * (r % y.l) + ρ (r / y.l) t

unfoldable pub group_at : Widths → (ℕ → ℕ → ℕ) → ℕ → ℕ → ℕ
group_at y ρ r t = y.c * (r / y.l) + at_place y ρ r t / y.w

unfoldable pub unit_at : Widths → (ℕ → ℕ → ℕ) → ℕ → ℕ → ℕ
unit_at y ρ r t = at_place y ρ r t % y.w
