-- The catalogue: what each call answers and what it leaves, for every input. n is the count, and ys the whole slice.
use Rattle.std.specs.Prelude.{ℕ, Bool, ◌||◌, false, List, [], ◌∷◌, ◌++◌, map, ltb, leb, length, get_or, take, replicate}
use Rattle.lists.specs.Pick.{both}
use Rattle.lists.specs.Passing.{passing, over, nonempty}
use Rattle.lists.specs.Refusal.{refusal_by, grant}
use Rattle.entries.specs.declared.Wide.{Wide}
use Rattle.entries.specs.declared.Entry.{Entry}
use Rattle.entries.specs.declared.Key.{Key}
use Rattle.entries.specs.declared.Found.{Found}
use Rattle.entries.specs.declared.Changed.{Changed}
use Rattle.entries.specs.declared.Page.{Page}
use Rattle.entries.specs.Wide.{nought, wide_eq}
use Rattle.entries.specs.Blank.{blank}
use Rattle.entries.specs.Key.{key_of, key_lt, key_eq, listable, rising}

-- ---- the records of a list whose key is below k, is k, is above k

abbrev pub before : Key → List Entry → List Entry
before k xs = passing (λ r. key_lt (key_of r) k) xs

abbrev pub holders : Key → List Entry → List Entry
holders k xs = passing (λ r. key_eq (key_of r) k) xs

abbrev pub after : Key → List Entry → List Entry
after k xs = passing (λ r. key_lt k (key_of r)) xs

-- "of that device with file ≥ first, in file order"
abbrev pub onward : Key → List Entry → List Entry
onward k xs = passing (λ r. listable k (key_of r)) xs

-- the opposite of 9, "catalogue bad: count above the slice, or keys not strictly rising"
abbrev pub sound : ℕ → List Entry → Bool
sound n ys = both (leb n (length ys)) (rising (take n ys))

-- ---- "Lookup gives the cob or 11."

-- the cob of the first record of a list, (0,0) if there is none
abbrev pub cob_of : List Entry → Wide
cob_of [] = nought
cob_of (r ∷ rs) = r.cob

abbrev pub lookup_tests : Key → ℕ → List Entry → List (Bool × ℕ)
lookup_tests k n ys = (sound n ys, 9) ∷ (nonempty (holders k (take n ys)), 11) ∷ []

abbrev pub found_by : ℕ → Wide → Found
found_by number c = record { refusal = number; cob = grant number c nought }

abbrev pub lookup_of : Key → ℕ → List Entry → Found
lookup_of k n ys = found_by (refusal_by (lookup_tests k n ys)) (cob_of (holders k (take n ys)))

-- ---- a change, accepted where its number is 0: it answers the number of the records xs that are left, and the slice has zs in its first
-- places; refused, it leaves count and slice as they were

abbrev pub changed : ℕ → ℕ → List Entry → Changed
changed number n xs = record { refusal = number; count = grant number (length xs) n }

abbrev pub changed_list : ℕ → List Entry → List Entry → List Entry
changed_list number zs ys = grant number (over zs ys) ys

-- ---- "Insert replaces the cob of an equal key", else the record stands between those below it and those above it

abbrev pub inserted : Entry → List Entry → List Entry
inserted r xs = before (key_of r) xs ++ r ∷ after (key_of r) xs

-- the opposite of 10, "catalogue full and the key is new"
abbrev pub has_room : Entry → ℕ → List Entry → Bool
has_room r n ys = nonempty (holders (key_of r) (take n ys)) || ltb n (length ys)

abbrev pub insert_tests : Entry → ℕ → List Entry → List (Bool × ℕ)
insert_tests r n ys = (sound n ys, 9) ∷ (has_room r n ys, 10) ∷ []

abbrev pub insert_number : Entry → ℕ → List Entry → ℕ
insert_number r n ys = refusal_by (insert_tests r n ys)

abbrev pub insert_of : Entry → ℕ → List Entry → Changed
insert_of r n ys = changed (insert_number r n ys) n (inserted r (take n ys))

abbrev pub inserted_list : Entry → ℕ → List Entry → List Entry
inserted_list r n ys = changed_list (insert_number r n ys) (inserted r (take n ys)) ys

-- ---- "Delete needs all three to match, else 11; the slot it frees at the end becomes three zeros", device, file and cob

abbrev pub removed : Entry → List Entry → List Entry
removed r xs = before (key_of r) xs ++ after (key_of r) xs

abbrev pub matches : Entry → List Entry → List Entry
matches r xs = passing (λ x. wide_eq x.cob r.cob) (holders (key_of r) xs)

abbrev pub delete_tests : Entry → ℕ → List Entry → List (Bool × ℕ)
delete_tests r n ys = (sound n ys, 9) ∷ (nonempty (matches r (take n ys)), 11) ∷ []

abbrev pub delete_number : Entry → ℕ → List Entry → ℕ
delete_number r n ys = refusal_by (delete_tests r n ys)

abbrev pub delete_of : Entry → ℕ → List Entry → Changed
delete_of r n ys = changed (delete_number r n ys) n (removed r (take n ys))

abbrev pub deleted_list : Entry → ℕ → List Entry → List Entry
deleted_list r n ys = changed_list (delete_number r n ys) (removed r (take n ys) ++ blank ∷ []) ys

-- ---- listing: "it writes the cobs of that device with file ≥ first, in file order, as many as fit, leaves the rest of the output, and
-- answers the count, whether more remain and the next file number", "(0,0) if none remain"; refused, the output is all zeros

abbrev pub cobs : Key → List Entry → List Wide
cobs k xs = map (λ (r : Entry). r.cob) (onward k xs)

abbrev pub files : List Entry → List Wide
files xs = map (λ (r : Entry). r.file) xs

abbrev pub listing_tests : ℕ → List Entry → List (Bool × ℕ)
listing_tests n ys = (sound n ys, 9) ∷ []

abbrev pub page_by : ℕ → ℕ → Bool → Wide → Page
page_by number count more next =
    record { refusal = number; count = grant number count 0; more = grant number more false; next = grant number next nought }

abbrev pub listing_of : Key → ℕ → List Entry → List Wide → Page
listing_of k n ys out =
    page_by (refusal_by (listing_tests n ys))
    (length (take (length out) (cobs k (take n ys))))
    (ltb (length out) (length (cobs k (take n ys))))
    (get_or (files (onward k (take n ys))) (length out) nought)

abbrev pub listed_out : Key → ℕ → List Entry → List Wide → List Wide
listed_out k n ys out =
    grant (refusal_by (listing_tests n ys)) (over (take (length out) (cobs k (take n ys))) out) (replicate (length out) nought)
