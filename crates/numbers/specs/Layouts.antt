-- "Numbers of a layout": the bounds, and the numbers that follow from a layout's own.
use Rattle.std.specs.Prelude.{ℕ, ◌+◌, ◌*◌, ◌/◌, ◌≤◌}
use Rattle.numbers.specs.Gcd.{lcm}
use Rattle.numbers.specs.declared.Layout.{Layout}

-- "N data units 1..16, K parity units 0..3 and as many spares, W = N+2K"
abbrev pub width : Layout → ℕ
width y = y.n + 2 * y.k

-- ".. P targets with W ≤ P ≤ 64, U unit bytes 1..4,096, T tiles 1..65,536, cookie any 64-bit number"
-- Document 02, order 8: "The layout carries an edition, 1 or 2; another is refused with 1."
pub record Valid (y : Layout) : Type 0 where
  pub some_data : 1 ≤ y.n
  pub few_data : y.n ≤ 16
  pub few_parity : y.k ≤ 3
  pub enough_targets : width y ≤ y.p
  pub few_targets : y.p ≤ 64
  pub some_bytes : 1 ≤ y.u
  pub few_bytes : y.u ≤ 4096
  pub some_tiles : 1 ≤ y.t
  pub few_tiles : y.t ≤ 65536
  pub some_edition : 1 ≤ y.edition
  pub few_editions : y.edition ≤ 2

-- "B is the least common multiple of W and P (the greatest common divisor by Euclid's rule)"
unfoldable pub block : Layout → ℕ
block y = lcm (width y) y.p

-- "L = B/P rows and C = B/W groups in a tile"
unfoldable pub rows : Layout → ℕ
rows y = block y / y.p

unfoldable pub groups : Layout → ℕ
groups y = block y / width y

-- "A target has L·T frames"
abbrev pub frames : Layout → ℕ
frames y = rows y * y.t

-- the groups of all tiles
abbrev pub all_groups : Layout → ℕ
all_groups y = groups y * y.t

-- "the file has capacity T·C·N·U bytes; the image has exactly P·L·T·U bytes"
abbrev pub capacity : Layout → ℕ
capacity y = y.t * groups y * y.n * y.u

abbrev pub image_length : Layout → ℕ
image_length y = y.p * rows y * y.t * y.u

-- "Data and parity are the contents": N+K of the W units of a group
abbrev pub contents : Layout → ℕ
contents y = y.n + y.k

-- "T·C·(N+K)": the contents of all groups
abbrev pub all_contents : Layout → ℕ
all_contents y = all_groups y * contents y
