-- A search among keys that rise: what it goes past stands in front, so that the middle tells in which half it goes on.
use Rattle.std.specs.Prelude.{◌≡◌, refl, ℕ, zero, suc, ◌≤◌, ◌<◌, Bool, true, false, List, [], ◌∷◌, ltb, length, get_or}
use Rattle.std.proofs.Common.{sym, ap, ◌∙◌, not-suc-le-zero, le_of_suc-le-suc, arith, lt-ltb, le-ltb, leb-false}
use Rattle.std.proofs.Math.Dec.{leb-suc-suc}
use Rattle.std.proofs.lemmas.Bool.{lt-leb}
use Rattle.lists.specs.Pick.{pick, clash}
use Rattle.lists.specs.Passing.{passing, passing_no}
use Rattle.entries.specs.declared.Entry.{Entry}
use Rattle.entries.specs.declared.Key.{Key}
use Rattle.entries.specs.Key.{key_of, key_lt, rising_from, rising}
use Rattle.entries.specs.Span.{past_of, past_count}
use Rattle.entries.specs.Orders.{Lt, by_device, by_file, of_lt, lt_trans, not-lt}
use Rattle.entries.specs.Splits.{first_lt, rest_rises, rising-tail}

device_le : {a b : Key} → Lt a b → a.device ≤ b.device
device_le (by_device l) = omega arith
device_le (by_file e l) = omega arith

-- where a search does not go past a key, it does not go past a later one
past_closed : (k : Key) (w : Bool) {a b : Key} → Lt a b → past_of k w a ≡ false → past_of k w b ≡ false
past_closed k true {a} {b} l e = lt-leb b.device k.device (omega (arith, leb-false a.device k.device e, device_le l))
past_closed k false {a} {b} l e = not-lt b k (λ m. clash (key_lt a k) (of_lt (lt_trans l m)) e)

past_none : (k : Key) (w : Bool) (a : Key) (xs : List Entry) → rising_from a xs ≡ true → past_of k w a ≡ false
    → passing (λ (r : Entry). past_of k w (key_of r)) xs ≡ []
past_none k w a [] h e = refl
past_none k w a (x ∷ xs) h e =
    passing_no (λ (r : Entry). past_of k w (key_of r)) x xs here ∙ past_none k w (key_of x) xs (rest_rises a x xs h) here
  where
    here : past_of k w (key_of x) ≡ false
    here = past_closed k w (first_lt a x xs h) e

-- of a record in a rising list, the search goes past it exactly if it stands before the place that is sought
pub past_at : (k : Key) (w : Bool) (xs : List Entry) → rising xs ≡ true → (i : ℕ) (d : Entry) → i < length xs
    → past_of k w (key_of (get_or xs i d)) ≡ ltb i (past_count k w xs)
past_at k w [] h i d l = absurd (not-suc-le-zero l)
past_at k w (x ∷ xs) h zero d l = by_test (past_of k w (key_of x)) refl
  where
    by_test : (t : Bool) → past_of k w (key_of x) ≡ t
        → t ≡ ltb 0 (length (pick t (x ∷ passing (λ (r : Entry). past_of k w (key_of r)) xs) (passing (λ (r : Entry). past_of k w (key_of r)) xs)))
    by_test true e = sym (lt-ltb 0 (suc (past_count k w xs)) (omega arith))
    by_test false e = sym (ap (λ (ls : List Entry). ltb 0 (length ls)) (past_none k w (key_of x) xs h e) ∙ le-ltb 0 0 (omega arith))
past_at k w (x ∷ xs) h (suc i) d l = by_test (past_of k w (key_of x)) refl (past_at k w xs (rising-tail (key_of x) xs h) i d (le_of_suc-le-suc l))
  where
    rest : List Entry
    rest = passing (λ (r : Entry). past_of k w (key_of r)) xs

    by_test : (t : Bool) → past_of k w (key_of x) ≡ t → past_of k w (key_of (get_or xs i d)) ≡ ltb i (length rest)
        → past_of k w (key_of (get_or xs i d)) ≡ ltb (suc i) (length (pick t (x ∷ rest) rest))
    by_test true e f = f ∙ sym (leb-suc-suc (suc i) (length rest))
    by_test false e f =
        f ∙ ap (λ (ls : List Entry). ltb i (length ls)) none ∙ le-ltb i 0 (omega arith)
        ∙ sym (ap (λ (ls : List Entry). ltb (suc i) (length ls)) none ∙ le-ltb (suc i) 0 (omega arith))
      where
        none : rest ≡ []
        none = past_none k w (key_of x) xs h e

-- a search does not go past more records than there are
pub past_le : (k : Key) (w : Bool) (xs : List Entry) → past_count k w xs ≤ length xs
past_le k w [] = omega arith
past_le k w (x ∷ xs) = by_test (past_of k w (key_of x)) (past_le k w xs)
  where
    rest : List Entry
    rest = passing (λ (r : Entry). past_of k w (key_of r)) xs

    by_test : (t : Bool) → length rest ≤ length xs → length (pick t (x ∷ rest) rest) ≤ suc (length xs)
    by_test true l = omega arith
    by_test false l = omega arith
