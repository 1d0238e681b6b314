-- "Further facts wanted: a whole tile gives every target exactly L units; over the first g groups the unit counts of any two targets
-- differ by at most L", for any permutation of each tile.
use Rattle.std.specs.Prelude.{◌≡◌, Bool}
use Rattle.std.proofs.Math.Path.{sym, ap}
use Rattle.std.proofs.Common.{◌∙◌, subst, le_refl, le_of_lt, mul-zero, mul-suc, mod-lt, mul-le-mul_left, lt_of_lt_of_le}
use Prim.Native.Nat.{ℕ, zero, suc, ◌+◌, ◌*◌, ◌/◌, ◌%◌, ◌≤◌, ◌<◌}
use Rattle.std.proofs.Math.Nat.{div-add-mod}
use native.Mathlib.Omega.{arith}
use Rattle.std.proofs.Math.Dec.{eqb}
use Rattle.lists.specs.Pick.{eqb_iff}
use Rattle.lists.specs.Digits.{div_of, mod_of}
use Rattle.lists.specs.Count.{count, sum, count_same, sum_same, sum-add, count_blocks, count_mono, count-mod}
use Rattle.lists.specs.Bijection.{Bijection}
use Rattle.place.specs.Units.{Widths, Tiled, target_of}

-- the units of group g on target t, and those of the first n groups
unfoldable pub units_on : Widths → (ℕ → ℕ → ℕ) → ℕ → ℕ → ℕ
units_on y π t g = count (λ u. eqb (target_of y π g u) t) y.w

unfoldable pub load : Widths → (ℕ → ℕ → ℕ) → ℕ → ℕ → ℕ
load y π t n = sum (units_on y π t) n

module _ (y : Widths) (v : Tiled y) (π ρ : ℕ → ℕ → ℕ) (b : (tile : ℕ) → Bijection y.p (π tile) (ρ tile)) (t : ℕ) (ht : t < y.p) where
  -- the test at a column of a tile
  abbrev hit : ℕ → ℕ → Bool
  hit k x = eqb (x % y.p) (ρ k t)

  targets : 0 < y.p
  targets = lt_of_lt_of_le v.units v.enough

  -- group j of tile k
  units_in_tile : (k j : ℕ) → j < y.c → units_on y π t (y.c * k + j) ≡ count (λ u. hit k (y.w * j + u)) y.w
  unfolding units_on target_of
  units_in_tile k j h = count_same (λ u. eqb (target_of y π (y.c * k + j) u) t) (λ u. hit k (y.w * j + u)) y.w (λ u l. each u)
    where
      each : (u : ℕ) → eqb (target_of y π (y.c * k + j) u) t ≡ hit k (y.w * j + u)
      each u =
          (λ i. eqb (π (div_of y.c k h i) ((y.w * mod_of y.c k h i + u) % y.p)) t)
          ∙ eqb_iff (π k ((y.w * j + u) % y.p)) t ((y.w * j + u) % y.p) (ρ k t)
          (λ e. sym ((b k).back ((y.w * j + u) % y.p) (mod-lt (y.w * j + u) targets)) ∙ ap (ρ k) e)
          (λ e. ap (π k) e ∙ (b k).forth t ht)

  -- the first n groups of tile k
  tile_part : (k n : ℕ) → n ≤ y.c → sum (λ j. units_on y π t (y.c * k + j)) n ≡ count (hit k) (y.w * n)
  tile_part k n h =
      sum_same (λ j. units_on y π t (y.c * k + j)) (λ j. count (λ u. hit k (y.w * j + u)) y.w) n (λ j l. units_in_tile k j (omega arith))
      ∙ count_blocks (hit k) y.w n

  -- a whole tile gives the target L units
  pub whole_tile : (k : ℕ) → sum (λ j. units_on y π t (y.c * k + j)) y.c ≡ y.l
  whole_tile k = tile_part k y.c (le_refl y.c) ∙ ap (count (hit k)) v.whole ∙ count-mod y.p (ρ k t) y.l ((b k).from t ht)

  part-le : (k n : ℕ) → n ≤ y.c → sum (λ j. units_on y π t (y.c * k + j)) n ≤ y.l
  part-le k n h =
      subst (λ (x : ℕ). x ≤ y.l) (sym (tile_part k n h))
      (subst (λ (x : ℕ). count (hit k) (y.w * n) ≤ x) (ap (count (hit k)) v.whole ∙ count-mod y.p (ρ k t) y.l ((b k).from t ht))
      (count_mono (hit k) (y.w * n) (y.w * y.c) (mul-le-mul_left y.w h)))

  pub load_tiles : (k : ℕ) → load y π t (y.c * k) ≡ y.l * k
  unfolding load
  load_tiles zero = ap (sum (units_on y π t)) (mul-zero y.c) ∙ unfold sum in sym (mul-zero y.l)
  load_tiles (suc k) =
      ap (sum (units_on y π t)) (mul-suc y.c k)
      ∙ sum-add (units_on y π t) (y.c * k) y.c
      ∙ (λ i. load_tiles k i + whole_tile k i)
      ∙ sym (mul-suc y.l k)

  -- over the first n groups: between l and l more
  pub load_between : (n : ℕ) → (y.l * (n / y.c) ≤ load y π t n) × (load y π t n ≤ y.l * (n / y.c) + y.l)
  unfolding load
  load_between n =
      let k = n / y.c in
      let j = n % y.c in
      let e : load y π t n ≡ y.l * (n / y.c) + sum (λ i. units_on y π t (y.c * (n / y.c) + i)) (n % y.c) =
      ap (load y π t) (sym (div-add-mod n y.c)) ∙ sum-add (units_on y π t) (y.c * (n / y.c)) (n % y.c)
      ∙ ap (λ (x : ℕ). x + sum (λ i. units_on y π t (y.c * (n / y.c) + i)) (n % y.c)) (load_tiles (n / y.c)) in
      let m = part-le (n / y.c) (n % y.c) (le_of_lt (mod-lt n v.groups)) in
      (omega arith, omega arith)

-- the loads of two targets differ by at most L
pub loads_near : (y : Widths) → Tiled y → (π ρ : ℕ → ℕ → ℕ) → ((tile : ℕ) → Bijection y.p (π tile) (ρ tile)) → (n t t' : ℕ) → t < y.p → t' < y.p → load y π t n ≤ load y π t' n + y.l
loads_near y v π ρ b n t t' h h' =
    let a = load_between y v π ρ b t h n in
    let a' = load_between y v π ρ b t' h' n in
    omega arith
