-- Homes of a layout's contents: units of the group, all different, on no listed target; a present content keeps its home under the whole
-- list; at most K contents of a group are missing; and entries from k on are never read.
use Rattle.std.specs.Prelude.{◌≡◌, false, List}
use Rattle.std.proofs.Math.Path.{ap}
use Rattle.std.proofs.Common.{◌∙◌}
use Prim.Native.Nat.{ℕ, suc, ◌+◌, ◌-◌, ◌≤◌, ◌<◌}
use native.Mathlib.Omega.{arith}
use Rattle.lists.specs.Count.{count}
use Rattle.lists.specs.Search.{any}
use Rattle.numbers.specs.declared.Layout.{Layout}
use Rattle.numbers.specs.Layouts.{Valid, width, contents}
use Rattle.homes.specs.declared.Record.{Record}
use Rattle.homes.specs.Listed.{listed, listed_same}
use Rattle.homes.specs.Homes.{homes}
use Rattle.homes.specs.HomesLaws.{Apart}
use Rattle.homes.proofs.HomesLaws.{homes_apart, spare_for, homes_alive, on-listed, homes_stay, homes_same}
use Rattle.homes.specs.Records.{entry, failed, Good}
use Rattle.homes.specs.Missing.{target_at, home, missing}
use Rattle.homes.specs.MissingLaws.{units_apart}

-- under no entry each content is at its own unit
pub home-own : (y : Layout) (R : Record) (g j c : ℕ) → j ≡ 0 → home y R j g c ≡ c
unfolding home homes
home-own y R g j c none = ap (λ (i : ℕ). home y R i g c) none

-- and where no target has failed nothing is missing
pub unfailed-present : (y : Layout) (R : Record) → R.k ≡ 0 → (g c : ℕ) → missing y R g c ≡ false
unfolding missing listed any
unfailed-present y R none g c = ap (λ (k : ℕ). listed (entry R) k (target_at y g (home y R R.q g c))) none

module _ (y : Layout) (v : Valid y) (R : Record) (g : ℕ) where
  module _ (j : ℕ) (le : j ≤ y.k) where
    -- homes are units of the group, and all different
    pub home_apart : Apart (contents y) (contents y + y.k) (home y R j g)
    unfolding home
    home_apart = homes_apart (target_at y g) (contents y) y.k (entry R) (units_apart y v g) j le

    pub home-lt : (c : ℕ) → c < contents y → home y R j g c < width y
    home-lt c h = let b = home_apart.below c h in omega arith

    -- so they lie on different targets
    pub home_targets : (c c' : ℕ) → c < contents y → c' < contents y → target_at y g (home y R j g c) ≡ target_at y g (home y R j g c') → c ≡ c'
    home_targets c c' h h' e =
        home_apart.differ c c' h h' (units_apart y v g (home y R j g c) (home y R j g c') (home_apart.below c h) (home_apart.below c' h') e)

    -- none of them listed so far
    pub home_alive : (c : ℕ) → c < contents y → listed (entry R) j (target_at y g (home y R j g c)) ≡ false
    unfolding home
    home_alive c h = homes_alive (target_at y g) (contents y) y.k (entry R) (units_apart y v g) j le c h

  -- a content on the target of entry j moves to a spare of its group that was no content's home and lies on no target listed by then
  pub home_moves_lem : (j c : ℕ) → j < y.k → c < contents y → target_at y g (home y R j g c) ≡ entry R j
      → (i : ℕ) × (i < y.k) × (home y R (suc j) g c ≡ contents y + i) × ((d : ℕ) → d < contents y → home y R j g d ≡ contents y + i → ⊥)
      × (listed (entry R) (suc j) (target_at y g (contents y + i)) ≡ false)
  unfolding home
  home_moves_lem j c lt h on = spare_for (target_at y g) (contents y) y.k (entry R) (units_apart y v g) j lt c h on

  -- so where all that failed are repaired nothing is missing
  pub repaired_present : R.k ≤ y.k → R.q ≡ R.k → (c : ℕ) → c < contents y → missing y R g c ≡ false
  unfolding missing
  repaired_present few all c h = ap (λ (j : ℕ). failed R (target_at y g (home y R j g c))) all ∙ home_alive R.k few c h

  -- a present content keeps its home under the whole list
  pub home_stays : R.q ≤ R.k → (c : ℕ) → missing y R g c ≡ false → home y R R.k g c ≡ home y R R.q g c
  unfolding home missing
  home_stays le c m =
      ap (λ (j : ℕ). homes (target_at y g) (contents y) y.k (entry R) j c) (let z : R.k ≡ R.q + (R.k - R.q) = omega arith in z)
      ∙ homes_stay (target_at y g) (contents y) y.k (entry R) R.q (R.k - R.q) R.k c (omega arith) m

  -- at most K contents are missing
  pub few-missing : Good y R → count (missing y R g) (contents y) ≤ y.k
  unfolding missing
  few-missing r =
      let f = r.few in
      let q = r.mended in
      omega (
        arith,
        on-listed (target_at y g) (contents y) y.k (entry R) (units_apart y v g) (home y R R.q g) (home_apart R.q (omega arith)) R.k,
      )

-- "entries from k on are never read": records with the same k, q and first k entries have the same homes and missing contents
module _ (y : Layout) (l l' : List ℕ) (k q n : ℕ)
    (same : (i : ℕ) → i < k → entry (record { failed = l; k = k; q = q; waiting = n }) i ≡ entry (record { failed = l'; k = k; q = q; waiting = n }) i) where
  abbrev R : Record
  R = record { failed = l; k = k; q = q; waiting = n }

  abbrev R' : Record
  R' = record { failed = l'; k = k; q = q; waiting = n }

  pub home_unread : (j g c : ℕ) → j ≤ k → home y R j g c ≡ home y R' j g c
  unfolding home
  home_unread j g c le =
      ap (λ (h : ℕ → ℕ). h c) (homes_same (target_at y g) (contents y) y.k (entry R) (entry R') j (λ i b. same i (omega arith)))

  pub missing_unread : q ≤ k → (g c : ℕ) → missing y R g c ≡ missing y R' g c
  unfolding missing
  missing_unread le g c =
      ap (λ (u : ℕ). listed (entry R) k (target_at y g u)) (home_unread q g c le) ∙ listed_same (entry R) (entry R') k _ same
