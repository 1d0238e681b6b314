-- The file after a list of writes: what an image then holds, and which range's byte stands where.
use Rattle.std.specs.Prelude.{◌≡◌, true, false, List, length}
use Rattle.std.proofs.Math.Path.{refl, ap, subst}
use Rattle.std.proofs.Common.{sym, ◌∙◌, not-suc-le-zero, le_of_suc-le-suc, eq-or-lt_of_le, arith}
use Rattle.std.proofs.Math.Logic.{⊎_elim}
use Prim.Native.Nat.{ℕ, zero, suc, ◌+◌, ◌-◌, ◌<◌}
use Rattle.lists.specs.Pick.{pick, pick_true, pick-false}
use Rattle.lists.specs.Part.{within, within_of}
use Rattle.lists.specs.Count.{sum}
use Rattle.lists.specs.Tabulate.{at, get_d_tabulate, length-tabulate}
use Rattle.pool.specs.Files.{written}
use Rattle.pool_list.specs.Ranges.{range_offset, range_size, range_bytes, laid_ranges}
use Rattle.pool_list.specs.Steps.{bytes_length}

-- ---- the bytes of each range are bytes

-- ---- "where they overlap, the later wins"

module _ (file : List ℕ) (rs : List (List ℕ)) (bytes : List ℕ) where
  laid-length : (n : ℕ) → length (laid_ranges file rs bytes n) ≡ length file
  unfolding laid_ranges written
  laid-length zero = refl
  laid-length (suc n) = length-tabulate (length (laid_ranges file rs bytes n)) _ ∙ laid-length n

  module _ (x : ℕ) (inside : x < length file) where
    one-laid : (n : ℕ) → at (laid_ranges file rs bytes (suc n)) x
        ≡ pick (within (range_offset rs n) (range_size rs n) x) (at (range_bytes rs bytes n) (x - range_offset rs n)) (at (laid_ranges file rs bytes n) x)
    unfolding laid_ranges written
    one-laid n =
        get_d_tabulate (length (laid_ranges file rs bytes n)) _ x 0 (subst (λ (m : ℕ). x < m) (sym (laid-length n)) inside)
        ∙ ap (λ (m : ℕ). pick (within (range_offset rs n) m x) (at (range_bytes rs bytes n) (x - range_offset rs n)) (at (laid_ranges file rs bytes n) x)) (bytes_length rs bytes n)

    -- in none of the first n ranges: as it was
    pub untouched : (n : ℕ) → ((k : ℕ) → k < n → within (range_offset rs k) (range_size rs k) x ≡ false) → at (laid_ranges file rs bytes n) x ≡ at file x
    unfolding laid_ranges
    untouched zero out = refl
    untouched (suc n) out =
        one-laid n ∙ pick-false (within (range_offset rs n) (range_size rs n) x) _ _ (out n (omega arith)) ∙ untouched n (λ k h. out k (omega arith))

    -- in range i and in none of the later ones: range i's byte
    pub later_wins : (n i : ℕ) → i < n → within (range_offset rs i) (range_size rs i) x ≡ true
        → ((k : ℕ) → i < k → k < n → within (range_offset rs k) (range_size rs k) x ≡ false)
        → at (laid_ranges file rs bytes n) x ≡ at bytes (sum (range_size rs) i + (x - range_offset rs i))
    unfolding laid_ranges
    later_wins zero i h t out = absurd (not-suc-le-zero h)
    later_wins (suc n) i h t out =
        ⊎_elim
        (λ (e : i ≡ n).
        subst (λ (k : ℕ). at (laid_ranges file rs bytes (suc k)) x ≡ at bytes (sum (range_size rs) i + (x - range_offset rs i))) e
        (one-laid i ∙ pick_true (within (range_offset rs i) (range_size rs i) x) _ _ t
        ∙ get_d_tabulate (range_size rs i) (λ k. at bytes (sum (range_size rs) i + k)) (x - range_offset rs i) 0 (within_of (range_offset rs i) (range_size rs i) x t).1))
        (λ (l : i < n).
        one-laid n ∙ pick-false (within (range_offset rs n) (range_size rs n) x) _ _ (out n l (omega arith)) ∙ later_wins n i l t (λ k a b. out k a (omega arith)))
        (eq-or-lt_of_le (le_of_suc-le-suc h))
