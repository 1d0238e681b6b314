-- The place where a search by halves ends is the count of what it goes past.
use Rattle.std.specs.Prelude.{◌≡◌, ℕ, zero, suc, ◌≤◌, Bool, true, false, List, [], ◌∷◌, length}
use Rattle.std.proofs.Common.{sym, ap, ◌∙◌, arith, zero-le, lt-ltb, ltb-true}
use Rattle.std.specs.List.Sorted.{IsPartitionedBy, IsPartitionPoint}
use Rattle.lists.specs.Passing.{passing, passing_yes, passing_no}
use Rattle.entries.specs.declared.Entry.{Entry}
use Rattle.entries.specs.declared.Key.{Key}
use Rattle.entries.specs.Key.{key_of, rising}
use Rattle.entries.specs.Span.{past_of, past_count}
use Rattle.entries.specs.Searches.{past_at}

pub point_counts : (p : Entry → Bool) (xs : List Entry) (i : ℕ) → i ≤ length xs → IsPartitionPoint (λ y. p y ≡ true) (λ y. p y ≡ false) xs i
    → i ≡ length (passing p xs)
point_counts p [] i l h = omega arith
point_counts p (x ∷ xs) zero l h =
    point_counts p xs 0 zero-le ((λ k d a b. absurd (omega arith)), (λ k d a b. h.1 (suc k) d zero-le (omega arith)))
    ∙ sym (ap length (passing_no p x xs (h.1 0 x zero-le (omega arith))))
point_counts p (x ∷ xs) (suc i) l h =
    ap suc (point_counts p xs i (omega arith)
    ((λ k d a b. h.0 (suc k) d zero-le (omega arith)), (λ k d a b. h.1 (suc k) d (omega arith) (omega arith))))
    ∙ sym (ap length (passing_yes p x xs (h.0 0 x zero-le (omega arith))))

-- no record that the search goes past comes after one that it does not go past
pub parted : (k : Key) (w : Bool) (xs : List Entry) → rising xs ≡ true → IsPartitionedBy (λ (r : Entry). past_of k w (key_of r)) xs
parted k w xs h i j d a b e =
    past_at k w xs h i d (omega arith)
    ∙ lt-ltb i (past_count k w xs) (omega (arith, ltb-true j (past_count k w xs) (sym (past_at k w xs h j d b) ∙ e)))

abbrev pub below_key : Key → Entry → Bool
below_key k r = past_of k false (key_of r)

pub place_is : (xs : List Entry) (k : Key) (i : ℕ) → rising xs ≡ true → i ≤ length xs
    → IsPartitionPoint (λ y. below_key k y ≡ true) (λ y. below_key k y ≡ false) xs i → i ≡ past_count k false xs
place_is xs k i h l p = point_counts (below_key k) xs i l p
