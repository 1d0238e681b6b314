-- Homes of a layout's contents: units of the group, all different, on no listed target; a present content keeps its home under the whole
-- list; at most K contents of a group are missing; and entries from k on are never read.
use Rattle.std.specs.Prelude.{◌≡◌}
use Prim.Native.Nat.{ℕ, ◌+◌, ◌<◌}
use native.Mathlib.Omega.{arith}
use Rattle.numbers.specs.declared.Layout.{Layout}
use Rattle.numbers.specs.Layouts.{Valid, contents}
use Rattle.place.specs.PlaceLaws.{apart}
use Rattle.homes.specs.Missing.{target_at}

-- the units of a group lie on different targets
pub units_apart : (y : Layout) → Valid y → (g d d' : ℕ) → d < contents y + y.k → d' < contents y + y.k → target_at y g d ≡ target_at y g d' → d ≡ d'
units_apart y v g d d' h h' e = apart y v g d d' (omega arith) (omega arith) e
