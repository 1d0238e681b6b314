-- Document 01's catalogue, whose files and cobs were numbers of 64 bits: its records, their order and what its calls answered; and such a record at
-- the new width. A key is given as a record, whose cob does not count.
use Rattle.std.specs.Prelude.{ℕ, Bool, true, false, ◌||◌, List, [], ◌∷◌, ◌++◌, map, ltb, leb, eqb, length, take, replicate}
use Rattle.lists.specs.Pick.{pick, both}
use Rattle.lists.specs.Passing.{passing, nonempty, over}
use Rattle.lists.specs.Refusal.{refusal_by, grant}
use Rattle.entries.specs.declared.Wide.{Wide}
use Rattle.entries.specs.declared.Entry.{Entry}

pub record OldEntry : Type 0 where
  pub device : ℕ
  pub file : ℕ
  pub cob : ℕ

-- ---- "the first n strictly rising by device and then file"

abbrev pub old_lt : OldEntry → OldEntry → Bool
old_lt a b = pick (ltb a.device b.device) true (pick (ltb b.device a.device) false (ltb a.file b.file))

abbrev pub old_eq : OldEntry → OldEntry → Bool
old_eq a b = both (eqb a.device b.device) (eqb a.file b.file)

abbrev pub old_rising_from : OldEntry → List OldEntry → Bool
old_rising_from a [] = true
old_rising_from a (r ∷ rs) = both (old_lt a r) (old_rising_from r rs)

abbrev pub old_rising : List OldEntry → Bool
old_rising [] = true
old_rising (r ∷ rs) = old_rising_from r rs

abbrev pub old_sound : ℕ → List OldEntry → Bool
old_sound n ys = both (leb n (length ys)) (old_rising (take n ys))

abbrev pub old_holders : OldEntry → List OldEntry → List OldEntry
old_holders k xs = passing (λ x. old_eq x k) xs

-- ---- "Lookup gives the cob or 11."

abbrev pub old_cob_of : List OldEntry → ℕ
old_cob_of [] = 0
old_cob_of (r ∷ rs) = r.cob

abbrev pub old_lookup : OldEntry → ℕ → List OldEntry → ℕ
old_lookup k n ys = refusal_by ((old_sound n ys, 9) ∷ (nonempty (old_holders k (take n ys)), 11) ∷ [])

-- ---- "Insert replaces the cob of an equal key"

abbrev pub old_inserted : OldEntry → List OldEntry → List OldEntry
old_inserted r xs = passing (λ x. old_lt x r) xs ++ r ∷ passing (λ x. old_lt r x) xs

abbrev pub old_insert : OldEntry → ℕ → List OldEntry → ℕ
old_insert r n ys = refusal_by ((old_sound n ys, 9) ∷ (nonempty (old_holders r (take n ys)) || ltb n (length ys), 10) ∷ [])

abbrev pub old_inserted_list : OldEntry → ℕ → List OldEntry → List OldEntry
old_inserted_list r n ys = grant (old_insert r n ys) (over (old_inserted r (take n ys)) ys) ys

-- ---- "Delete needs all three to match, else 11; the slot it frees at the end becomes three zeros."

abbrev pub old_removed : OldEntry → List OldEntry → List OldEntry
old_removed r xs = passing (λ x. old_lt x r) xs ++ passing (λ x. old_lt r x) xs

abbrev pub old_delete : OldEntry → ℕ → List OldEntry → ℕ
old_delete r n ys = refusal_by ((old_sound n ys, 9) ∷ (nonempty (passing (λ x. eqb x.cob r.cob) (old_holders r (take n ys))), 11) ∷ [])

abbrev pub old_deleted_list : OldEntry → ℕ → List OldEntry → List OldEntry
old_deleted_list r n ys = grant (old_delete r n ys) (over (old_removed r (take n ys) ++ record { device = 0; file = 0; cob = 0 } ∷ []) ys) ys

-- ---- "the cobs of that device with file ≥ first, in file order, as many as fit"

abbrev pub old_listable : OldEntry → OldEntry → Bool
old_listable k a = both (eqb a.device k.device) (leb k.file a.file)

abbrev pub old_cobs : OldEntry → List OldEntry → List ℕ
old_cobs k xs = map (λ (r : OldEntry). r.cob) (passing (λ x. old_listable k x) xs)

abbrev pub old_files : OldEntry → List OldEntry → List ℕ
old_files k xs = map (λ (r : OldEntry). r.file) (passing (λ x. old_listable k x) xs)

abbrev pub old_listing : ℕ → List OldEntry → ℕ
old_listing n ys = refusal_by ((old_sound n ys, 9) ∷ [])

abbrev pub old_listed_out : OldEntry → ℕ → List OldEntry → List ℕ → List ℕ
old_listed_out k n ys out = grant (old_listing n ys) (over (take (length out) (old_cobs k (take n ys))) out) (replicate (length out) 0)

-- ---- a number taken as (0, number)

abbrev pub widened : ℕ → Wide
widened x = record { first = 0; second = x }

abbrev pub as_entry : OldEntry → Entry
as_entry r = record { device = r.device; file = widened r.file; cob = widened r.cob }
