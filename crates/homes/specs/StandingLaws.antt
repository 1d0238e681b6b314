-- Homes hang on the targets of the group's own units alone; so what the code works out from a group's targets are the layout's homes.
use Rattle.std.specs.Prelude.{List}
use Prim.Native.Nat.{ℕ, ◌≤◌, ◌<◌}
use native.Mathlib.Omega.{arith}
use Rattle.numbers.specs.declared.Layout.{Layout}
use Rattle.numbers.specs.declared.Shape.{Shape}
use Rattle.numbers.specs.Layouts.{width}
use Rattle.place.specs.PlaceLaws.{place_in}
use Rattle.homes.specs.Missing.{target_at}
use Rattle.homes.specs.Standing.{InTile}

-- ---- the arrays of a layout's group

-- ---- in a tile

module _ {y : Layout} {s : Shape} {to : List ℕ} {g : ℕ} (t : InTile y s to g) where
  -- a group has at most 22 units
  pub few_units : s.w ≤ 22
  few_units = let v = t.valid in omega (arith, t.shape.w_is)

  pub unit_in_lem : {u : ℕ} → u < s.w → u < width y
  unit_in_lem h = omega (arith, t.shape.w_is)

  pub target_lt : (u : ℕ) → u < s.w → target_at y g u < 64
  target_lt u h = let p = (place_in y t.valid g u (unit_in_lem h) t.group).1 in let v = t.valid in omega arith
