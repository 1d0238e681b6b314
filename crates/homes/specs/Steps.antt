-- What the steps of the code show: of the record's test, of the search for a spare, of a move, and of a list with one entry fewer.
use Rattle.std.specs.Prelude.{◌≡◌, Bool, true, [], ◌∷◌, ℕ, ◌+◌, ◌-◌, ◌≤◌, ◌<◌, leb, ltb}
use Rattle.std.proofs.Math.Path.{sym, ap}
use Rattle.std.proofs.Common.{◌∙◌, add-one, arith, le-leb, lt-ltb, le-ltb, eq-eqb, ne_eqb}
use Rattle.std.proofs.Math.Bool.{false, not}
use Rattle.std.proofs.lemmas.Bool.{lt-leb}
use Rattle.std.proofs.Math.Dec.{eqb}
use Rattle.lists.specs.Pick.{pick, pick_true, pick-false, both_true, both_hold, not-both_ways, clash}
use Rattle.lists.specs.Search.{any, all, lowest, all-at}
use Rattle.lists.specs.Refusal.{◌or_else◌, refusal_by, or_else_left, or_else_right, refusal_append}
use Rattle.numbers.specs.declared.Layout.{Layout}
use Rattle.numbers.specs.Layouts.{all_contents}
use Rattle.homes.specs.declared.Record.{Record}
use Rattle.homes.specs.Listed.{listed}
use Rattle.homes.specs.Homes.{free, move}
use Rattle.homes.specs.Records.{entry, entry_good, record_good, failures_refusal, record_refusal}
use Rattle.homes.specs.Dropping.{list_place, skip, entry_without}

-- ---- the record's test

module _ (y : Layout) (R : Record) where
  pub entry_outside : (i : ℕ) → y.p ≤ entry R i → entry_good y R i ≡ false
  entry_outside i h = pick-false (ltb (entry R i) y.p) _ false (le-ltb (entry R i) y.p h)

  pub entry_twice : (i : ℕ) → listed (entry R) i (entry R i) ≡ true → entry_good y R i ≡ false
  entry_twice i t =
      not-both_ways (entry_good y R i) (λ (g : entry_good y R i ≡ true). clash (not (listed (entry R) i (entry R i))) (both_true (ltb (entry R i) y.p) _ g).1 (ap not t))

  pub entry_fine : (i : ℕ) → entry R i < y.p → listed (entry R) i (entry R i) ≡ false → entry_good y R i ≡ true
  entry_fine i h t = both_hold (ltb (entry R i) y.p) _ (lt-ltb (entry R i) y.p h) (ap not t)

  pub refused_by : record_good y R ≡ false → 3 ≡ failures_refusal y R
  unfolding failures_refusal refusal_by ◌or_else◌
  refused_by e = sym (ap (λ (b : Bool). refusal_by ((b, 3) ∷ [])) e)

  pub too_many : y.k < R.k → 3 ≡ failures_refusal y R
  too_many h = refused_by (unfold record_good in pick-false (leb R.k y.k) _ false (lt-leb R.k y.k h))

  pub too_mended : R.k ≤ y.k → R.k < R.q → 3 ≡ failures_refusal y R
  too_mended f h =
      refused_by
      (unfold record_good in
      pick_true (leb R.k y.k) _ false (le-leb R.k y.k f) ∙ pick-false (leb R.q R.k) _ false (lt-leb R.q R.k h))

  -- the counts are good: the entries decide
  pub by_entries : R.k ≤ y.k → R.q ≤ R.k → record_good y R ≡ all (entry_good y R) R.k
  unfolding record_good
  by_entries f h = pick_true (leb R.k y.k) _ false (le-leb R.k y.k f) ∙ pick_true (leb R.q R.k) _ false (le-leb R.q R.k h)

  pub accepted_by : record_good y R ≡ true → 0 ≡ failures_refusal y R
  unfolding failures_refusal refusal_by ◌or_else◌
  accepted_by e = sym (ap (λ (b : Bool). refusal_by ((b, 3) ∷ [])) e)

-- ---- the count's test

module _ (y : Layout) (R : Record) where
  list_first : record_refusal y R ≡ failures_refusal y R or_else refusal_by ((leb R.waiting (all_contents y), 3) ∷ [])
  unfolding record_refusal failures_refusal
  list_first = refusal_append ((record_good y R, 3) ∷ []) ((leb R.waiting (all_contents y), 3) ∷ [])

  pub refused_by_list : {n : ℕ} → n ≡ failures_refusal y R → (n ≡ 0 → ⊥) → n ≡ record_refusal y R
  refused_by_list e f = e ∙ sym (list_first ∙ or_else_left _ _ (λ (z : failures_refusal y R ≡ 0). f (e ∙ z)))

  module _ {n : ℕ} (e : n ≡ failures_refusal y R) (z : n ≡ 0) where
    pub count_above : all_contents y < R.waiting → 3 ≡ record_refusal y R
    unfolding refusal_by ◌or_else◌
    count_above h = sym (list_first ∙ or_else_right _ _ (sym e ∙ z) ∙ simp (lt-leb R.waiting (all_contents y) h))

    pub count-within : R.waiting ≤ all_contents y → 0 ≡ record_refusal y R
    unfolding refusal_by ◌or_else◌
    count-within h = sym (list_first ∙ or_else_right _ _ (sym e ∙ z) ∙ simp (le-leb R.waiting (all_contents y) h))

pub one-bad : (f : ℕ → Bool) (n i : ℕ) → i < n → f i ≡ false → false ≡ all f n
one-bad f n i h e = sym (not-both_ways (all f n) (λ (t : all f n ≡ true). clash (f i) (all-at f n t i h) e))

-- ---- the lowest free spare

module _ (target : ℕ → ℕ) (m K : ℕ) (e : ℕ → ℕ) (j : ℕ) (h : ℕ → ℕ) where
  pub free-home : (i : ℕ) → listed h m (m + i) ≡ true → free target m e j h i ≡ false
  unfolding free listed
  free-home i a = pick-false (not (any (λ c. eqb (h c) (m + i)) m)) _ false (ap not a)

  pub free_rest : (i : ℕ) → listed h m (m + i) ≡ false → free target m e j h i ≡ not (listed e j (target (m + i)))
  unfolding free listed
  free_rest i a = pick_true (not (any (λ c. eqb (h c) (m + i)) m)) _ false (ap not a)

  -- ---- a move

  pub move_is : (c : ℕ) {spare x : ℕ} {on : Bool} → spare ≡ lowest (free target m e (j + 1) h) K → on ≡ eqb (target (h c)) (e j)
      → x ≡ pick on (m + spare) (h c) → x ≡ move target m K e j h c
  unfolding move
  move_is c s t p =
      p ∙ (λ i. pick (t i) (m + (s ∙ ap (λ (n : ℕ). lowest (free target m e n h) K) (add-one j)) i) (h c))

-- ---- entry after entry

-- ---- an entry of the list without the one at `place`

module _ (e : ℕ → ℕ) (last place i : ℕ) where
  pub beyond_kept : last < i → e i ≡ pick (ltb i last) (e (skip place i)) (pick (eqb i last) 0 (e i))
  beyond_kept h = sym (simp (le-ltb i last (omega arith), ne_eqb i last (λ (q : i ≡ last). omega arith)))

  pub last_freed : i ≡ last → 0 ≡ pick (ltb i last) (e (skip place i)) (pick (eqb i last) 0 (e i))
  last_freed h = sym (simp (le-ltb i last (omega arith), eq-eqb i last h))

  pub before_kept : i < last → i < place → e i ≡ pick (ltb i last) (e (skip place i)) (pick (eqb i last) 0 (e i))
  before_kept h l = sym (simp (lt-ltb i last h, lt-ltb i place l))

  pub after-moved : i < last → place ≤ i → e (i + 1) ≡ pick (ltb i last) (e (skip place i)) (pick (eqb i last) 0 (e i))
  after-moved h l = ap e (add-one i) ∙ sym (simp (lt-ltb i last h, le-ltb i place l))

pub entry_is : (R : Record) (d place i x : ℕ) → place ≡ list_place R d
    → x ≡ pick (ltb i (R.k - 1)) (entry R (skip place i)) (pick (eqb i (R.k - 1)) 0 (entry R i)) → x ≡ entry_without R d i
unfolding entry_without
entry_is R d place i x e h = h ∙ ap (λ (p : ℕ). pick (ltb i (R.k - 1)) (entry R (skip p i)) (pick (eqb i (R.k - 1)) 0 (entry R i))) e
