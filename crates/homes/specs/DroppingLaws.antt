-- The record without a target that was in its list: still good, with one entry fewer, the others in order. What was failed and is another target still is.
use Rattle.std.specs.Prelude.{◌≡◌, true, false, ℕ, zero, suc, ◌-◌, ◌≤◌, ◌<◌, eqb, ltb}
use Rattle.std.proofs.Common.{sym, ap, ◌∙◌, subst, arith, lt-ltb, le-ltb, eq-eqb, ne_eqb}
use Rattle.lists.specs.Pick.{pick_true, pick-false, below_or_not, equal_or_not}
use Rattle.lists.specs.Tabulate.{get_d_tabulate}
use Rattle.numbers.specs.declared.Layout.{Layout}
use Rattle.homes.specs.declared.Record.{Record}
use Rattle.homes.specs.Listed.{unlisted, unlisted_of}
use Rattle.homes.specs.Once.{once_differ, differ_once, listed_where}
use Rattle.homes.specs.Records.{entry, failed, Good}
use Rattle.homes.specs.Dropping.{list_place, skip, entry_without, without}

-- ---- a place left out

pub skip-low : (p i : ℕ) → i < p → skip p i ≡ i
skip-low p i h = pick_true (ltb i p) i (suc i) (lt-ltb i p h)

pub skip_high : (p i : ℕ) → p ≤ i → skip p i ≡ suc i
skip_high p i h = pick-false (ltb i p) i (suc i) (le-ltb i p h)

record Skips (p i s : ℕ) : Type 0 where
  pub from : i ≤ s
  pub to : s ≤ suc i
  pub off : s ≡ p → ⊥

skips : (p i : ℕ) → Skips p i (skip p i)
skips p i =
    below_or_not i p
    (λ (h : i < p). let e = skip-low p i h in record { from = omega arith; to = omega arith; off = λ (z : skip p i ≡ p). omega arith })
    (λ (h : p ≤ i). let e = skip_high p i h in record { from = omega arith; to = omega arith; off = λ (z : skip p i ≡ p). omega arith })

-- an entry of a shorter list stood in the longer one
pub skip-few : (p i k : ℕ) → i < k - 1 → skip p i < k
skip-few p i k b = omega (arith, (skips p i).to)

skip_rises : (p l i : ℕ) → l < i → skip p l < skip p i
skip_rises p l i b =
    below_or_not l p
    (λ (h : l < p). omega (arith, skip-low p l h, (skips p i).from))
    (λ (h : p ≤ l). let z : p ≤ i = omega arith in omega (arith, skip_high p l h, skip_high p i z))

skip_differ : (p i l : ℕ) → skip p i ≡ skip p l → i ≡ l
skip_differ p i l e =
    equal_or_not i l (λ (q : i ≡ l). q)
    (λ (n : i ≡ l → ⊥).
    below_or_not i l (λ (b : i < l). absurd (omega (arith, skip_rises p i l b, e)))
    (λ (b : l ≤ i). let c : l < i = omega arith in absurd (omega (arith, skip_rises p l i c, e))))

-- each place but p is that of one entry of the shorter list
unskip : (p i : ℕ) → (i ≡ p → ⊥) → (l : ℕ) × (skip p l ≡ i) × (l ≤ i) × (p < i → l < i)
unskip p zero ne = (0, skip-low p 0 (equal_or_not p 0 (λ (e : p ≡ 0). absurd (ne (sym e))) (λ (n : p ≡ 0 → ⊥). omega arith)), omega arith, (λ h. absurd (omega arith)))
unskip p (suc i) ne =
    below_or_not (suc i) p
    (λ (h : suc i < p). (suc i, skip-low p (suc i) h, omega arith, (λ (b : p < suc i). absurd (omega arith))))
    (λ (h : p ≤ suc i).
    let l : p ≤ i = equal_or_not (suc i) p (λ (e : suc i ≡ p). absurd (ne e)) (λ (n : suc i ≡ p → ⊥). omega arith) in
    (i, skip_high p i l, omega arith, (λ b. omega arith)))

-- ---- the shorter list

module _ (R : Record) (d : ℕ) (room : R.k ≤ 3) (in_List : failed R d ≡ true) where
  pub place-lt : list_place R d < R.k
  place-lt = (listed_where (entry R) R.k d in_List).0

  pub place_holds : entry R (list_place R d) ≡ d
  place_holds = (listed_where (entry R) R.k d in_List).1

  -- "k .. one lower"
  pub without_shorter : suc (without R d).k ≡ R.k
  without_shorter = omega (arith, place-lt)

  -- "the others in order",
  pub entry-without : (i : ℕ) → i < R.k - 1 → entry (without R d) i ≡ entry R (skip (list_place R d) i)
  unfolding entry_without
  entry-without i b = get_d_tabulate 3 (entry_without R d) i 0 (omega arith) ∙ pick_true (ltb i (R.k - 1)) _ _ (lt-ltb i (R.k - 1) b)

  -- "the freed entry is 0",
  pub entry_freed : entry (without R d) (R.k - 1) ≡ 0
  unfolding entry_without
  entry_freed =
      get_d_tabulate 3 (entry_without R d) (R.k - 1) 0 (omega (arith, place-lt))
      ∙ pick-false (ltb (R.k - 1) (R.k - 1)) _ _ (le-ltb (R.k - 1) (R.k - 1) (omega arith))
      ∙ pick_true (eqb (R.k - 1) (R.k - 1)) _ _ (eq-eqb (R.k - 1) (R.k - 1) (omega arith))

  -- and those after it are as they were
  pub entry_beyond : (i : ℕ) → R.k ≤ i → i < 3 → entry (without R d) i ≡ entry R i
  unfolding entry_without
  entry_beyond i b h =
      get_d_tabulate 3 (entry_without R d) i 0 h
      ∙ pick-false (ltb i (R.k - 1)) _ _ (le-ltb i (R.k - 1) (omega arith))
      ∙ pick-false (eqb i (R.k - 1)) _ _ (ne_eqb i (R.k - 1) (λ (e : i ≡ R.k - 1). omega (arith, place-lt)))

  skip-lt : (i : ℕ) → i < R.k - 1 → skip (list_place R d) i < R.k
  skip-lt i b = skip-few (list_place R d) i R.k b

  -- ---- of a good record

  module _ (y : Layout) (good : Good y R) where
    pub without-good : Good y (without R d)
    without-good =
        let f = good.few in
        let q = good.mended in
        record {
          few = omega arith;
          mended = omega arith;
          below = λ i b. subst (λ (x : ℕ). x < y.p) (sym (entry-without i b)) (good.below (skip (list_place R d) i) (skip-lt i b));
          once = differ_once (entry (without R d)) (R.k - 1) differ;
        }
      where
        differ : (i l : ℕ) → i < R.k - 1 → l < R.k - 1 → entry (without R d) i ≡ entry (without R d) l → i ≡ l
        differ i l hi hl e =
            skip_differ (list_place R d) i l
            (once_differ (entry R) R.k good.once (skip (list_place R d) i) (skip (list_place R d) l) (skip-lt i hi) (skip-lt l hl)
            (sym (entry-without i hi) ∙ e ∙ entry-without l hl))

    -- d is no longer failed
    pub taken_back : failed (without R d) d ≡ false
    taken_back =
        unlisted_of (entry (without R d)) (R.k - 1) d
        (λ i b e.
        (skips (list_place R d) i).off
        (once_differ (entry R) R.k good.once (skip (list_place R d) i) (list_place R d) (skip-lt i b) place-lt (sym (entry-without i b) ∙ e ∙ sym place_holds)))

  -- no other target's failure is forgotten, and none is new
  pub alive_stays : (t : ℕ) → failed R t ≡ false → failed (without R d) t ≡ false
  alive_stays t h =
      unlisted_of (entry (without R d)) (R.k - 1) t
      (λ i b e. unlisted (entry R) R.k t h (skip (list_place R d) i) (skip-lt i b) (sym (entry-without i b) ∙ e))

  pub others_alive : (t : ℕ) → (t ≡ d → ⊥) → failed (without R d) t ≡ false → failed R t ≡ false
  others_alive t ne h =
      unlisted_of (entry R) R.k t
      (λ i b e.
      let other : i ≡ list_place R d → ⊥ = λ (q : i ≡ list_place R d). ne (sym e ∙ ap (entry R) q ∙ place_holds) in
      let w = unskip (list_place R d) i other in
      let l : w.0 < R.k - 1 =
      below_or_not i (R.k - 1) (λ (s : i < R.k - 1). omega (arith, w.2))
      (λ (s : R.k - 1 ≤ i).
      let last : list_place R d < i = equal_or_not i (list_place R d) (λ (q : i ≡ list_place R d). absurd (other q)) (λ (n : i ≡ list_place R d → ⊥). omega (arith, place-lt)) in
      omega (arith, w.3 last)) in
      unlisted (entry (without R d)) (R.k - 1) t h w.0 l (entry-without w.0 l ∙ ap (entry R) w.1 ∙ e))
