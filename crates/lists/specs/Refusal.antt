-- Refusal numbers. "Where several apply, the lowest is given. None is given otherwise."
use Rattle.std.specs.Prelude.{◌≡◌, refl, ◌⊎◌, Bool, true, false, List, [], ◌∷◌, ◌++◌, ℕ, zero, suc, ◌≤◌, ◌<◌, leb}
use Rattle.std.proofs.Common.{sym, ap, ◌∙◌, subst, inl, inr, ⊎_elim, le_trans, arith, leb-true}
use Rattle.lists.specs.Pick.{pick, both, both_true, either_way, clash}

-- n unless the test holds
abbrev pub unless : Bool → ℕ → ℕ
unless t n = pick t 0 n

-- the first of two numbers that is not 0
infixr 40 ◌or_else◌
unfoldable pub ◌or_else◌ : ℕ → ℕ → ℕ
zero or_else b = b
suc a or_else b = suc a

-- a call's tests, each with the number it is refused with where it fails: the first that fails gives its number, 0 where none does
unfoldable pub refusal_by : List (Bool × ℕ) → ℕ
refusal_by [] = 0
refusal_by (x ∷ xs) = unless x.0 x.1 or_else refusal_by xs

-- the answer of an accepted call, else that of a refused one
abbrev pub grant : {A : Type 0} → ℕ → A → A → A
grant zero a b = a
grant (suc n) a b = b

-- ---- by steps

pub or_else_right : (a b : ℕ) → a ≡ 0 → a or_else b ≡ b
unfolding ◌or_else◌
or_else_right a b e = ap (λ (x : ℕ). x or_else b) e

pub or_else_left : (a b : ℕ) → (a ≡ 0 → ⊥) → a or_else b ≡ a
unfolding ◌or_else◌
or_else_left zero b f = absurd (f refl)
or_else_left (suc a) b f = refl

pub unless-zero : (t : Bool) (n : ℕ) → unless t (suc n) ≡ 0 → t ≡ true
unless-zero true n e = refl
unless-zero false n e = absurd (omega arith)

pub grant_no : {A : Type 0} (n : ℕ) (a b : A) → (n ≡ 0 → ⊥) → grant n a b ≡ b
grant_no zero a b f = absurd (f refl)
grant_no (suc n) a b f = refl

pub grant_yes : {A : Type 0} (n : ℕ) (a b : A) → n ≡ 0 → grant n a b ≡ a
grant_yes n a b e = ap (λ (m : ℕ). grant m a b) e

-- what holds of the one where the call is accepted, and of the other where it is refused, holds of the answer
pub grant-either : {A : Type 0} (n : ℕ) (a b : A) (P : A → Type 0) → (n ≡ 0 → P a) → ((n ≡ 0 → ⊥) → P b) → P (grant n a b)
grant-either zero a b P f g = f refl
grant-either (suc n) a b P f g = g (λ (e : suc n ≡ 0). absurd (omega arith))

-- ---- a table: its numbers rise and none is 0; each test of it passes; a test of it fails with number m

abbrev pub rising_from : ℕ → List (Bool × ℕ) → Bool
rising_from n [] = true
rising_from n (x ∷ xs) = both (leb n x.1) (rising_from x.1 xs)

abbrev pub Passes : List (Bool × ℕ) → Type 0
Passes [] = Unit {0}
Passes (x ∷ xs) = (x.0 ≡ true) × Passes xs

abbrev pub FailsWith : ℕ → List (Bool × ℕ) → Type 0
FailsWith m [] = ⊥
FailsWith m (x ∷ xs) = ((x.0 ≡ false) × (x.1 ≡ m)) ⊎ FailsWith m xs

-- the lowest number of a test that fails, and none otherwise
pub record LowestThatApplies (t : List (Bool × ℕ)) (n : ℕ) : Type 0 where
  pub applies : 0 < n → FailsWith n t
  pub lowest : (m : ℕ) → FailsWith m t → (0 < n) × (n ≤ m)
  pub none : n ≡ 0 → Passes t

step_fails : (b : Bool) (m rest : ℕ) → 0 < m → b ≡ false → unless b m or_else rest ≡ m
unfolding ◌or_else◌
step_fails b zero rest h e = elim h [ ]
step_fails b (suc m) rest h e = ap (λ (x : Bool). unless x (suc m) or_else rest) e

pub step-passes : (b : Bool) (m rest : ℕ) → b ≡ true → unless b m or_else rest ≡ rest
unfolding ◌or_else◌
step-passes b m rest e = ap (λ (x : Bool). unless x m or_else rest) e

low_enough : (n : ℕ) (t : List (Bool × ℕ)) (m : ℕ) → rising_from n t ≡ true → FailsWith m t → n ≤ m
low_enough n [] m r f = absurd f
low_enough n (x ∷ xs) m r f =
    let h = both_true (leb n x.1) (rising_from x.1 xs) r in
    let le = leb-true n x.1 h.0 in
    ⊎_elim (λ (q : (x.0 ≡ false) × (x.1 ≡ m)). omega (arith, le, q.1)) (λ (g : FailsWith m xs). le_trans le (low_enough x.1 xs m h.1 g)) f

pub refusal_lowest : (n : ℕ) (t : List (Bool × ℕ)) → 0 < n → rising_from n t ≡ true → LowestThatApplies t (refusal_by t)
unfolding refusal_by
refusal_lowest n [] pos r = record { applies = λ h. absurd (omega arith); lowest = λ m f. absurd f; none = λ e. tt }
refusal_lowest n (x ∷ xs) pos r =
    let h = both_true (leb n x.1) (rising_from x.1 xs) r in
    let some : 0 < x.1 = omega (arith, leb-true n x.1 h.0) in
    ⊎_elim
    (λ (e : x.0 ≡ true).
    let ih = refusal_lowest x.1 xs some h.1 in
    let same = step-passes x.0 x.1 (refusal_by xs) e in
    record {
      applies = λ k. inr (subst (λ z. FailsWith z xs) (sym same) (ih.applies (subst (λ z. 0 < z) same k)));
      lowest = λ m f. subst (λ z. (0 < z) × (z ≤ m)) (sym same) (⊎_elim (λ (q : (x.0 ≡ false) × (x.1 ≡ m)). clash x.0 e q.0) (λ (g : FailsWith m xs). ih.lowest m g) f);
      none = λ z. (e, ih.none (sym same ∙ z));
    })
    (λ (e : x.0 ≡ false).
    let same = step_fails x.0 x.1 (refusal_by xs) some e in
    record {
      applies = λ k. inl (e, sym same);
      lowest = λ m f. subst (λ z. (0 < z) × (z ≤ m)) (sym same) (some, ⊎_elim (λ (q : (x.0 ≡ false) × (x.1 ≡ m)). omega (arith, q.1)) (λ (g : FailsWith m xs). low_enough x.1 xs m h.1 g) f);
      none = λ z. absurd (omega (arith, same, z, some));
    })
    (either_way x.0)

-- nothing is refused where every test passes
pub refusal_none : (t : List (Bool × ℕ)) → Passes t → refusal_by t ≡ 0
unfolding refusal_by
refusal_none [] p = refl
refusal_none (x ∷ xs) p = step-passes x.0 x.1 (refusal_by xs) p.0 ∙ refusal_none xs p.1

-- what a call that found the number n answers: refused with it, or accepted
pub refused-answer : {A : Type 0} (answer : ℕ → A) (good : A) {n m : ℕ} → n ≡ m → (n ≡ 0 → ⊥) → answer n ≡ grant m good (answer m)
refused-answer answer good {n} {m} e f = ap answer e ∙ sym (grant_no m good (answer m) (λ (z : m ≡ 0). f (e ∙ z)))

pub accepted_answer : {A : Type 0} (good bad : A) {n m : ℕ} → n ≡ m → n ≡ 0 → good ≡ grant m good bad
accepted_answer good bad {n} {m} e z = sym (grant_yes m good bad (sym e ∙ z))

-- ---- one table after another

or_else_assoc : (a b c : ℕ) → (a or_else b) or_else c ≡ a or_else (b or_else c)
unfolding ◌or_else◌
or_else_assoc zero b c = refl
or_else_assoc (suc a) b c = refl

pub refusal_append : (t s : List (Bool × ℕ)) → refusal_by (t ++ s) ≡ refusal_by t or_else refusal_by s
unfolding refusal_by ◌or_else◌
refusal_append [] s = refl
refusal_append (x ∷ xs) s =
    ap (λ (n : ℕ). unless x.0 x.1 or_else n) (refusal_append xs s) ∙ sym (or_else_assoc (unless x.0 x.1) (refusal_by xs) (refusal_by s))
