-- Keys rise where each one is below the next.
use Rattle.std.specs.Prelude.{◌≡◌, refl, ℕ, zero, suc, ◌+◌, ◌<◌, Bool, true, false, List, [], ◌∷◌, length, get_or}
use Rattle.std.proofs.Common.{sym, ap, ◌∙◌, subst, arith, add-one}
use Rattle.std.specs.List.{IsAllAdjacentAnswer}
use Rattle.lists.specs.Pick.{both, both_hold, both_off}
use Rattle.entries.specs.declared.Entry.{Entry}
use Rattle.entries.specs.Key.{key_of, key_lt, rising_from, rising}

-- the record at i in a list is below the next one
abbrev lower : List Entry → ℕ → Entry → Bool
lower xs i d = key_lt (key_of (get_or xs i d)) (key_of (get_or xs (suc i) d))

all_rise : (a : Entry) (xs : List Entry) → ((i : ℕ) (d : Entry) → suc i < length (a ∷ xs) → lower (a ∷ xs) i d ≡ true) → rising_from (key_of a) xs ≡ true
all_rise a [] h = refl
all_rise a (x ∷ xs) h =
    both_hold (key_lt (key_of a) (key_of x)) (rising_from (key_of x) xs) (h 0 a (omega arith)) (all_rise x xs (λ i d l. h (suc i) d (omega arith)))

one_falls : (a : Entry) (xs : List Entry) (i : ℕ) (d : Entry) → suc i < length (a ∷ xs) → lower (a ∷ xs) i d ≡ false → rising_from (key_of a) xs ≡ false
one_falls a [] i d l e = absurd (omega (arith, l))
one_falls a (x ∷ xs) zero d l e = ap (λ (t : Bool). both t (rising_from (key_of x) xs)) e
one_falls a (x ∷ xs) (suc i) d l e =
    ap (both (key_lt (key_of a) (key_of x))) (one_falls x xs i d (omega (arith, l)) e) ∙ both_off (key_lt (key_of a) (key_of x))

next : (xs : List Entry) (i : ℕ) (d : Entry) (t : Bool) → t ≡ key_lt (key_of (get_or xs i d)) (key_of (get_or xs (i + 1) d)) → lower xs i d ≡ t
next xs i d t e = subst (λ (j : ℕ). key_lt (key_of (get_or xs i d)) (key_of (get_or xs j d)) ≡ t) (add-one i) (sym e)

pub sorted_rises : (xs : List Entry) (t : Bool) → IsAllAdjacentAnswer (λ x y b. b ≡ key_lt (key_of x) (key_of y)) xs t → t ≡ rising xs
sorted_rises [] true h = refl
sorted_rises [] false h = absurd (omega (arith, h.1))
sorted_rises (x ∷ xs) true h =
    sym (all_rise x xs (λ i d l. next (x ∷ xs) i d true (h i d (omega (arith, l)))))
sorted_rises (x ∷ xs) false h = sym (one_falls x xs h.0 x (omega (arith, h.1)) (next (x ∷ xs) h.0 x false (h.2 x)))
