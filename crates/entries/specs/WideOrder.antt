-- The order of wide numbers: all that the laws of the keys use of it; and that it is the order of the numbers that the words write.
use Rattle.std.specs.Prelude.{◌≡◌, refl, ℕ, ◌≤◌, ◌<◌, ◌^◌, Bool, true, false, ltb}
use Rattle.std.proofs.Common.{sym, ap, ◌∙◌, subst}
use native.Mathlib.Omega.{arith}
use Rattle.std.proofs.Math.Dec.{eqb}
use Rattle.std.proofs.Math.Arith.{lt_of_le-ne}
use borrow.Author.Tests.{ltb-true, ltb-false, eqb-true, eqb-false, lt-ltb, le-ltb, eq-eqb, ne_eqb}
use Rattle.lists.specs.Pick.{pick, both, clash, below_or_not, equal_or_not}
use Rattle.entries.specs.declared.Wide.{Wide}
use Rattle.entries.specs.Wide.{nought, wide_lt, wide_eq, number_of}

-- the order, said with words
pub data WideLt (a b : Wide) : Type 0 where
  by_first : a.first < b.first → WideLt a b
  by_second : a.first ≡ b.first → a.second < b.second → WideLt a b

pub wide_lt_of : (a b : Wide) → wide_lt a b ≡ true → WideLt a b
unfolding wide_lt
wide_lt_of a b h = by_tests (ltb a.first b.first) (ltb b.first a.first) refl refl h
  where
    by_tests : (s t : Bool) → ltb a.first b.first ≡ s → ltb b.first a.first ≡ t
        → pick s true (pick t false (ltb a.second b.second)) ≡ true → WideLt a b
    by_tests true t p q e = by_first (ltb-true _ _ p)
    by_tests false true p q e = clash false e refl
    by_tests false false p q e =
        by_second (omega (arith, ltb-false a.first b.first p, ltb-false b.first a.first q)) (ltb-true a.second b.second e)

pub of_wide_lt : {a b : Wide} → WideLt a b → wide_lt a b ≡ true
unfolding wide_lt
of_wide_lt (by_first l) = simp (lt-ltb _ _ l)
of_wide_lt {a} {b} (by_second e l) =
    simp (le-ltb a.first b.first (omega arith), le-ltb b.first a.first (omega arith), lt-ltb _ _ l)

pub wide_trans : {a b c : Wide} → WideLt a b → WideLt b c → WideLt a c
wide_trans (by_first p) (by_first q) = by_first (omega arith)
wide_trans (by_first p) (by_second e q) = by_first (omega arith)
wide_trans (by_second e p) (by_first q) = by_first (omega arith)
wide_trans (by_second e p) (by_second f q) = by_second (e ∙ f) (omega arith)

pub wide_irrefl : {a : Wide} → WideLt a a → ⊥
wide_irrefl (by_first p) = omega arith
wide_irrefl (by_second e p) = omega arith

pub not_wide_lt : (a b : Wide) → (WideLt a b → ⊥) → wide_lt a b ≡ false
not_wide_lt a b h = by_test (wide_lt a b) refl
  where
    by_test : (t : Bool) → wide_lt a b ≡ t → wide_lt a b ≡ false
    by_test true e = absurd (h (wide_lt_of a b e))
    by_test false e = e

-- equal numbers
pub wide_eq_of : (a b : Wide) → wide_eq a b ≡ true → a ≡ b
unfolding wide_eq
wide_eq_of a b h = words (eqb a.first b.first) (eqb a.second b.second) refl refl h
  where
    words : (s t : Bool) → eqb a.first b.first ≡ s → eqb a.second b.second ≡ t → both s t ≡ true → a ≡ b
    words true true p q e =
        ap {B = Wide} (λ (f : ℕ). record { first = f; second = a.second }) (eqb-true a.first b.first p)
        ∙ ap {B = Wide} (λ (s : ℕ). record { first = b.first; second = s }) (eqb-true a.second b.second q)
    words true false p q e = clash false e refl
    words false t p q e = clash false e refl

pub wide_eq_refl : (a : Wide) → wide_eq a a ≡ true
unfolding wide_eq
wide_eq_refl a = simp (eq-eqb a.first a.first refl, eq-eqb a.second a.second refl)

-- of two numbers one is below, or they are equal
pub wide_more : (a b : Wide) → wide_eq a b ≡ false → wide_lt a b ≡ false → WideLt b a
unfolding wide_lt wide_eq
wide_more a b p q =
    by_tests (ltb a.first b.first) (ltb b.first a.first) (ltb a.second b.second) (eqb a.first b.first) (eqb a.second
    b.second) refl refl refl refl refl p q
  where
    by_tests : (s t u v w : Bool) → ltb a.first b.first ≡ s → ltb b.first a.first ≡ t → ltb a.second b.second ≡ u
        → eqb a.first b.first ≡ v → eqb a.second b.second ≡ w → both v w ≡ false → pick s true (pick t false u) ≡ false → WideLt b a
    by_tests true t u v w e₁ e₂ e₃ e₄ e₅ p q = clash true refl q
    by_tests false true u v w e₁ e₂ e₃ e₄ e₅ p q = by_first (ltb-true _ _ e₂)
    by_tests false false true v w e₁ e₂ e₃ e₄ e₅ p q = clash true refl q
    by_tests false false false true true e₁ e₂ e₃ e₄ e₅ p q = clash true refl p
    by_tests false false false true false e₁ e₂ e₃ e₄ e₅ p q =
        by_second (sym (eqb-true _ _ e₄)) (lt_of_le-ne (ltb-false _ _ e₃) (λ h. eqb-false _ _ e₅ (sym h)))
    by_tests false false false false w e₁ e₂ e₃ e₄ e₅ p q =
        absurd (eqb-false a.first b.first e₄ (omega (arith, ltb-false a.first b.first e₁, ltb-false b.first a.first e₂)))

-- the opposite of the order goes on from number to number: where b is not below a, and c is not below b
pub wide_le_trans : (a b c : Wide) → wide_lt b a ≡ false → wide_lt c b ≡ false → wide_lt c a ≡ false
wide_le_trans a b c p q = not_wide_lt c a (λ l. clash (wide_lt b a) (of_wide_lt (by_test (wide_eq c b) refl l)) p)
  where
    by_test : (t : Bool) → wide_eq c b ≡ t → WideLt c a → WideLt b a
    by_test true e l = subst (λ (w : Wide). WideLt w a) (wide_eq_of c b e) l
    by_test false e l = wide_trans (wide_more c b e q) l

pub none_below : (a : Wide) → wide_lt a nought ≡ false
none_below a = not_wide_lt a nought never
  where
    never : WideLt a nought → ⊥
    never (by_first l) = omega arith
    never (by_second e l) = omega arith

-- ---- the words as digits of one number

module _ (a b : Wide) (p : a.second < 2 ^ 64) (q : b.second < 2 ^ 64) where
  -- the order of the pairs is the order of the numbers first·2^64 + second
  pub wide_order : wide_lt a b ≡ ltb (number_of a) (number_of b)
  wide_order = below_or_not (number_of a) (number_of b) yes no
    where
      lower : number_of a < number_of b → WideLt a b
      lower l =
          below_or_not a.first b.first (λ (f : a.first < b.first). by_first f)
          (λ (f : b.first ≤ a.first). let e : a.first ≡ b.first = omega arith in by_second e (omega arith))

      yes : number_of a < number_of b → wide_lt a b ≡ ltb (number_of a) (number_of b)
      yes l = of_wide_lt (lower l) ∙ sym (lt-ltb (number_of a) (number_of b) l)

      not_lower : number_of b ≤ number_of a → WideLt a b → ⊥
      not_lower l (by_first f) = omega arith
      not_lower l (by_second e f) = omega arith

      no : number_of b ≤ number_of a → wide_lt a b ≡ ltb (number_of a) (number_of b)
      no l = not_wide_lt a b (not_lower l) ∙ sym (le-ltb (number_of a) (number_of b) l)

  -- pairs are equal where their numbers are
  pub wide_equal : wide_eq a b ≡ eqb (number_of a) (number_of b)
  unfolding wide_eq
  wide_equal = equal_or_not (number_of a) (number_of b) yes no
    where
      yes : number_of a ≡ number_of b → wide_eq a b ≡ eqb (number_of a) (number_of b)
      yes e =
          let f : a.first ≡ b.first = omega arith in
          let s : a.second ≡ b.second = omega arith in
          simp (eq-eqb a.first b.first f, eq-eqb a.second b.second s, eq-eqb (number_of a) (number_of b) e)

      no : (number_of a ≡ number_of b → ⊥) → wide_eq a b ≡ eqb (number_of a) (number_of b)
      no n = by_test (wide_eq a b) refl
        where
          by_test : (t : Bool) → wide_eq a b ≡ t → wide_eq a b ≡ eqb (number_of a) (number_of b)
          by_test true e = absurd (n (ap number_of (wide_eq_of a b e)))
          by_test false e = e ∙ sym (ne_eqb (number_of a) (number_of b) n)
