-- Numbers that pass one test, matched with those that pass another: as many pass the one as the other.
use Rattle.std.specs.Prelude.{◌≡◌, refl, Bool, true, false, not, ℕ, zero, suc, ◌+◌, ◌≤◌, ◌<◌, eqb}
use Rattle.std.proofs.Common.{sym, ap, ◌∙◌, ⊎_elim, le_antisymm, arith, eq-eqb, ne_eqb}
use Rattle.lists.specs.Pick.{bit, both, both_hold, both_off, either_way, equal_or_not}
use Rattle.lists.specs.Count.{count, count_same}

-- the test, but for the number v
abbrev without : (ℕ → Bool) → ℕ → ℕ → Bool
without h v k = both (h k) (not (eqb k v))

without_other : (h : ℕ → Bool) (v k : ℕ) → (k ≡ v → ⊥) → without h v k ≡ h k
without_other h v k ne = by (h k) (ap not (ne_eqb k v ne))
  where
    by : (t : Bool) {s : Bool} → s ≡ true → both t s ≡ t
    by true e = e
    by false e = refl

count-without : (h : ℕ → Bool) (v m : ℕ) → v < m → h v ≡ true → count h m ≡ count (without h v) m + 1
unfolding count
count-without h v zero b t = absurd (omega arith)
count-without h v (suc m) b t =
    equal_or_not m v
    (λ (e : m ≡ v).
    let old = count_same (without h v) h m (λ k l. without_other h v k (λ (q : k ≡ v). omega arith)) in
    let here : bit (h m) ≡ 1 = ap bit (ap h e ∙ t) in
    let gone : bit (without h v m) ≡ 0 = ap bit (ap (λ (s : Bool). both (h m) (not s)) (eq-eqb m v e) ∙ both_off (h m)) in
    omega arith)
    (λ (ne : m ≡ v → ⊥).
    let old = count-without h v m (omega arith) t in
    let here : bit (without h v m) ≡ bit (h m) = ap bit (without_other h v m ne) in
    omega arith)

-- each that passes f goes to one that passes h, and no two to the same: at least as many pass h
pub count_into : (f h : ℕ → Bool) (n m : ℕ) (to : ℕ → ℕ) → ((i : ℕ) → i < n → f i ≡ true → (to i < m) × (h (to i) ≡ true))
    → ((i j : ℕ) → i < n → j < n → f i ≡ true → f j ≡ true → to i ≡ to j → i ≡ j) → count f n ≤ count h m
unfolding count
count_into f h zero m to goes apart = omega arith
count_into f h (suc n) m to goes apart =
    ⊎_elim
    (λ (t : f n ≡ true).
    let here = goes n (omega arith) t in
    let rest =
    count_into f (without h (to n)) n m to
    (λ i b s. (
      (goes i (omega arith) s).0,
      both_hold (h (to i)) _ (goes i (omega arith) s).1 (ap not (ne_eqb (to i) (to n) (λ (e : to i ≡ to n). let q = apart i n (omega arith) (omega arith) s t e in omega arith))),
    ))
    (λ i j b l. apart i j (omega arith) (omega arith)) in
    omega (arith, count-without h (to n) m here.0 here.1, ap bit t))
    (λ (t : f n ≡ false).
    omega (arith, count_into f h n m to (λ i b. goes i (omega arith)) (λ i j b l. apart i j (omega arith) (omega arith)), ap bit t))
    (either_way (f n))

-- they are matched one to one, by two maps that undo each other on what passes: as many pass the one test as the other
pub record Across (f h : ℕ → Bool) (n m : ℕ) (to from : ℕ → ℕ) : Type 0 where
  pub lands : (i : ℕ) → i < n → f i ≡ true → to i < m
  pub passes : (i : ℕ) → i < n → f i ≡ true → h (to i) ≡ true
  pub back : (i : ℕ) → i < n → f i ≡ true → from (to i) ≡ i

across_le : {f h : ℕ → Bool} {n m : ℕ} {to from : ℕ → ℕ} → Across f h n m to from → count f n ≤ count h m
across_le {f} {h} {n} {m} {to} {from} a =
    count_into f h n m to (λ i b t. (a.lands i b t, a.passes i b t)) (λ i j b l s t e. sym (a.back i b s) ∙ ap from e ∙ a.back j l t)

pub count_across : {f h : ℕ → Bool} {n m : ℕ} {to from : ℕ → ℕ} → Across f h n m to from → Across h f m n from to → count f n ≡ count h m
count_across a b = le_antisymm (across_le a) (across_le b)
