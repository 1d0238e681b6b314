-- W·C = P·L = B, and B is the least common multiple; bounds of all the numbers that follow.
use Rattle.std.specs.Prelude.{◌≡◌, ℕ, ◌*◌, ◌/◌, ◌≤◌, ◌<◌}
use Rattle.std.proofs.Common.{sym, ◌∙◌, subst, inl, inr, mul-pos, eq-zero-or-pos, div-le_self, mul-le-mul, lt_irrefl, mul-zero, arith}
use Rattle.std.proofs.Math.Path.{ap}
use Rattle.std.specs.Int.{◌∣◌}
use Rattle.std.proofs.Math.Nat.{dvd-mul_left, dvd-mul_right, mul_comm, mul-div_cancel', mul-div_cancel, mul-div_cancel_left, pos_of_dvd_of_pos}
use Rattle.numbers.specs.Gcd.{gcd, gcd_dvd, lcm, lcm-left, lcm_right, lcm_dvd}
use Rattle.numbers.specs.Layouts.{Valid, width, block, rows, groups}
use Rattle.numbers.specs.declared.Layout.{Layout}

module _ (y : Layout) (v : Valid y) where
  width_pos : 0 < width y
  width_pos = omega arith

  targets_pos : 0 < y.p
  targets_pos = omega arith

  pub rows_is : rows y ≡ width y / gcd (width y) y.p
  unfolding rows block lcm
  rows_is = mul-div_cancel (width y / gcd (width y) y.p) targets_pos

  pub groups_is : groups y ≡ y.p / gcd (width y) y.p
  unfolding groups block
  groups_is = ap (λ (b : ℕ). b / width y) (sym (lcm-left (width y) y.p width_pos)) ∙ mul-div_cancel_left (y.p / gcd (width y) y.p) width_pos

  -- W C = B
  pub width-groups : width y * groups y ≡ block y
  unfolding block
  width-groups = ap (λ (c : ℕ). width y * c) groups_is ∙ lcm-left (width y) y.p width_pos

  -- P L = B
  pub targets_rows : y.p * rows y ≡ block y
  unfolding block
  targets_rows = ap (λ (l : ℕ). y.p * l) rows_is ∙ mul_comm y.p (width y / gcd (width y) y.p) ∙ lcm_right (width y) y.p

  pub width-groups-rows : width y * groups y ≡ y.p * rows y
  width-groups-rows = width-groups ∙ sym targets_rows

  pub rows-le : rows y ≤ width y
  rows-le = subst (λ (l : ℕ). l ≤ width y) (sym rows_is) (div-le_self (width y) (gcd (width y) y.p))

  pub groups-le : groups y ≤ y.p
  groups-le = subst (λ (l : ℕ). l ≤ y.p) (sym groups_is) (div-le_self y.p (gcd (width y) y.p))

  pub rows_pos : 0 < rows y
  rows_pos = pos_of_dvd_of_pos {m = rows y} {n = width y} (subst (λ (l : ℕ). l ∣ width y) (sym rows_is) (div_dvd (gcd (width y) y.p) (width y) (gcd_dvd (width y) y.p).0)) width_pos
    where
      div_dvd : (d n : ℕ) → d ∣ n → n / d ∣ n
      div_dvd d n h = subst (λ (x : ℕ). n / d ∣ x) (mul-div_cancel' d h) (dvd-mul_left (n / d) d)

  pub groups_pos : 0 < groups y
  groups_pos =
      elim (eq-zero-or-pos (groups y)) [
        | inl e ↦ let z : y.p * rows y ≡ 0 = sym width-groups-rows ∙ ap (λ (c : ℕ). width y * c) e ∙ mul-zero (width y) in
            absurd (lt_irrefl 0 (subst (λ (x : ℕ). 0 < x) z (mul-pos targets_pos rows_pos)))
        | inr h ↦ h
      ]

  -- B is a multiple of both, and of every multiple of both a divisor
  pub block_multiple : (width y ∣ block y) × (y.p ∣ block y)
  block_multiple = (subst (λ (b : ℕ). width y ∣ b) width-groups (dvd-mul_right (width y) (groups y)), subst (λ (b : ℕ). y.p ∣ b) targets_rows (dvd-mul_right y.p (rows y)))

  pub block_least : (m : ℕ) → width y ∣ m → y.p ∣ m → block y ∣ m
  unfolding block
  block_least m = lcm_dvd (width y) y.p m width_pos targets_pos

-- all products fit 64 bits, for any rows and groups as few as a layout has
pub record Products (y : Layout) (l c : ℕ) : Type 0 where
  pub frames : l * y.t ≤ 1441792
  pub groups : c * y.t ≤ 4194304
  pub tile_groups : y.t * c ≤ 4194304
  pub data_units_lem : y.t * c * y.n ≤ 67108864
  pub capacity : y.t * c * y.n * y.u ≤ 274877906944
  pub tile_places : y.p * l ≤ 1408
  pub places : y.p * l * y.t ≤ 92274688
  pub image : y.p * l * y.t * y.u ≤ 377957122048

pub products : (y : Layout) → Valid y → (l c : ℕ) → l ≤ 22 → c ≤ 64 → Products y l c
products y v l c hl hc =
    let tile_groups : y.t * c ≤ 4194304 = omega (arith, mul-le-mul v.few_tiles hc) in
    let data_units_lem : y.t * c * y.n ≤ 67108864 = omega (arith, mul-le-mul tile_groups v.few_data) in
    let tile_places : y.p * l ≤ 1408 = omega (arith, mul-le-mul v.few_targets hl) in
    let places : y.p * l * y.t ≤ 92274688 = omega (arith, mul-le-mul tile_places v.few_tiles) in
    record {
      frames = omega (arith, mul-le-mul hl v.few_tiles);
      groups = omega (arith, mul-le-mul hc v.few_tiles);
      tile_groups = tile_groups;
      data_units_lem = data_units_lem;
      capacity = omega (arith, mul-le-mul data_units_lem v.few_bytes);
      tile_places = tile_places;
      places = places;
      image = omega (arith, mul-le-mul places v.few_bytes);
    }

pub layout_products : (y : Layout) → Valid y → Products y (rows y) (groups y)
layout_products y v = products y v (rows y) (groups y) (omega (arith, rows-le y v)) (omega (arith, groups-le y v))
