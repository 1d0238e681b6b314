-- The catalogue: a legal one stays legal, what lookups find after changes, which slots change, and that a continued listing is whole; of
-- each call, that it answers the lowest refusal number that applies, and that any two outcomes its promise allows are the same.
use Rattle.std.specs.Prelude.{◌≡◌, refl, true, false, List, ℕ, ◌≤◌, ◌<◌, eqb, length, get_or, take, replicate}
use Rattle.std.proofs.Common.{ap, ◌∙◌, arith}
use Rattle.lists.specs.Passing.{passing}
use Rattle.lists.specs.Refusal.{LowestThatApplies, refusal_lowest, grant_no}
use Rattle.entries.specs.declared.Wide.{Wide}
use Rattle.entries.specs.declared.Entry.{Entry}
use Rattle.entries.specs.declared.Key.{Key}
use Rattle.entries.specs.declared.Found.{Found}
use Rattle.entries.specs.declared.Changed.{Changed}
use Rattle.entries.specs.declared.Page.{Page}
use Rattle.entries.specs.Wide.{nought}
use Rattle.entries.specs.Blank.{blank}
use Rattle.entries.specs.Key.{key_of, key_eq}
use Rattle.entries.specs.Catalogue.{sound, onward, cobs, lookup_tests, lookup_of, insert_tests, insert_number, insert_of}
use Rattle.entries.specs.Catalogue.{inserted_list, delete_tests, delete_number, delete_of, deleted_list, listing_tests, listing_of, listed_out}
use Rattle.entries.specs.Promise.{Lookup, Insert, Delete, Listing}
use Rattle.entries.specs.Laws as L
use Rattle.entries.specs.Slots as S
use Rattle.entries.specs.Pages as P
use Rattle.shelf.specs.declared.Shelf.{Shelf}
use Rattle.shelf.specs.declared.Sheet.{Sheet}
use Rattle.shelf.specs.Shelf.{shelf_of, sheet_of}
use Rattle.promises.specs.Tight.{same}

-- ---- changes; n is the count, and ys the whole slice

module _ (r : Entry) (n : ℕ) (ys : List Entry) where
  -- a legal catalogue stays legal, whether the change is accepted or refused
  pub insert_stays_legal : sound n ys ≡ true → sound (insert_of r n ys).count (inserted_list r n ys) ≡ true
  insert_stays_legal = L.insert_legal r n ys

  pub delete_stays_legal : sound n ys ≡ true → sound (delete_of r n ys).count (deleted_list r n ys) ≡ true
  delete_stays_legal = L.delete_legal r n ys

  -- an inserted record is found by its key, and another key finds what it found before
  pub found-after_insert : sound n ys ≡ true → insert_number r n ys ≡ 0
      → lookup_of (key_of r) (insert_of r n ys).count (inserted_list r n ys) ≡ record { refusal = 0; cob = r.cob }
  found-after_insert = L.lookup_inserted r n ys

  pub others_after_insert : sound n ys ≡ true → (j : Key) → key_eq (key_of r) j ≡ false → insert_number r n ys ≡ 0
      → lookup_of j (insert_of r n ys).count (inserted_list r n ys) ≡ lookup_of j n ys
  others_after_insert = L.lookup_beside_insert r n ys

  -- a deleted record is not found, and another key finds what it found before
  pub found-after_delete : sound n ys ≡ true → delete_number r n ys ≡ 0
      → lookup_of (key_of r) (delete_of r n ys).count (deleted_list r n ys) ≡ record { refusal = 11; cob = nought }
  found-after_delete = L.lookup_deleted r n ys

  pub others_after_delete : sound n ys ≡ true → (j : Key) → key_eq (key_of r) j ≡ false → delete_number r n ys ≡ 0
      → lookup_of j (delete_of r n ys).count (deleted_list r n ys) ≡ lookup_of j n ys
  others_after_delete = L.lookup_beside_delete r n ys

  -- "Slots beyond the larger of the old and new counts never change."
  pub insert_changes_only : (i : ℕ) (d : Entry) → n ≤ i → (insert_of r n ys).count ≤ i → get_or (inserted_list r n ys) i d ≡ get_or ys i d
  insert_changes_only = S.insert_beyond r n ys

  pub delete_changes_only : (i : ℕ) (d : Entry) → n ≤ i → get_or (deleted_list r n ys) i d ≡ get_or ys i d
  delete_changes_only = S.delete_beyond r n ys

  -- "the slot it frees at the end becomes three zeros", which are five words now
  pub delete_frees : (d : Entry) → delete_number r n ys ≡ 0 → get_or (deleted_list r n ys) (delete_of r n ys).count d ≡ blank
  delete_frees = S.delete_frees r n ys

  -- after a refusal, "catalogue with its count .. are unchanged"
  pub insert_refused : (c : Changed) (zs : List Entry) → Insert r n ys c zs → (c.refusal ≡ 0 → ⊥) → (c.count ≡ n) × (zs ≡ ys)
  insert_refused c zs p never =
      let same = S.insert_refused r n ys (λ z. never (ap (λ (x : Changed). x.refusal) p.answer ∙ z)) in
      (ap (λ (x : Changed). x.count) p.answer ∙ same.0, p.slots ∙ same.1)

  pub delete_refused : (c : Changed) (zs : List Entry) → Delete r n ys c zs → (c.refusal ≡ 0 → ⊥) → (c.count ≡ n) × (zs ≡ ys)
  delete_refused c zs p never =
      let same = S.delete_refused r n ys (λ z. never (ap (λ (x : Changed). x.refusal) p.answer ∙ z)) in
      (ap (λ (x : Changed). x.count) p.answer ∙ same.0, p.slots ∙ same.1)

-- "A refused .. listing .. fills its output with zeros", and "returned numbers are 0 where no rule gives them another value"
module _ (n : ℕ) (ys : List Entry) (k : Key) where
  pub lookup_refused : (f : Found) → Lookup k n ys f → (f.refusal ≡ 0 → ⊥) → f.cob ≡ nought
  lookup_refused f p never =
      ap (λ (x : Found). x.cob) p.answer
      ∙ grant_no (lookup_of k n ys).refusal _ nought (λ (z : _ ≡ 0). never (ap (λ (x : Found). x.refusal) p.answer ∙ z))

  pub listing_refused : (old : List Wide) (page : Page) (new : List Wide) → Listing k n ys old page new → (page.refusal ≡ 0 → ⊥)
      → (new ≡ replicate (length old) nought) × (page.count ≡ 0) × (page.more ≡ false) × (page.next ≡ nought)
  listing_refused old page new p never = (
    p.output ∙ grant_no (listing_of k n ys old).refusal _ (replicate (length old) nought) no,
    ap (λ (x : Page). x.count) p.answer ∙ grant_no (listing_of k n ys old).refusal _ 0 no,
    ap (λ (x : Page). x.more) p.answer ∙ grant_no (listing_of k n ys old).refusal _ false no,
    ap (λ (x : Page). x.next) p.answer ∙ grant_no (listing_of k n ys old).refusal _ nought no,
  )
    where
      no : (listing_of k n ys old).refusal ≡ 0 → ⊥
      no z = never (ap (λ (x : Page). x.refusal) p.answer ∙ z)

-- ---- listings: what t of them in a row write into m places each, continued at the next file number, is every cob once, in file order

pub listings_visit_all : (t m : ℕ) (k : Key) (n : ℕ) (ys : List Entry) → sound n ys ≡ true → 0 < m → length (cobs k (take n ys)) ≤ t
    → P.visited t m k n ys ≡ cobs k (take n ys)
listings_visit_all = P.visits_all

-- from file (0,0) on these are the cobs of all the records of the device
pub all_of_the_device : (d : ℕ) (xs : List Entry) → onward (record { device = d; file = nought }) xs ≡ passing (λ (r : Entry). eqb r.device d) xs
all_of_the_device = P.from_zero

-- ---- the lowest number that applies

module _ (n : ℕ) (ys : List Entry) where
  pub lookup_lowest : (k : Key) → LowestThatApplies (lookup_tests k n ys) (lookup_of k n ys).refusal
  lookup_lowest k = refusal_lowest 1 (lookup_tests k n ys) (omega arith) refl

  pub insert_lowest : (r : Entry) → LowestThatApplies (insert_tests r n ys) (insert_of r n ys).refusal
  insert_lowest r = refusal_lowest 1 (insert_tests r n ys) (omega arith) refl

  pub delete_lowest : (r : Entry) → LowestThatApplies (delete_tests r n ys) (delete_of r n ys).refusal
  delete_lowest r = refusal_lowest 1 (delete_tests r n ys) (omega arith) refl

  pub listing_lowest : (k : Key) (out : List Wide) → LowestThatApplies (listing_tests n ys) (listing_of k n ys out).refusal
  listing_lowest k out = refusal_lowest 1 (listing_tests n ys) (omega arith) refl

-- ---- any two outcomes are the same

module _ (n : ℕ) (ys : List Entry) where
  pub lookup_tight : (k : Key) (f f' : Found) → Lookup k n ys f → Lookup k n ys f' → f ≡ f'
  lookup_tight k f f' p q = same p.answer q.answer

  pub insert_tight : (r : Entry) (c c' : Changed) (zs zs' : List Entry) → Insert r n ys c zs → Insert r n ys c' zs' → (c ≡ c') × (zs ≡ zs')
  insert_tight r c c' zs zs' p q = (same p.answer q.answer, same p.slots q.slots)

  pub delete_tight : (r : Entry) (c c' : Changed) (zs zs' : List Entry) → Delete r n ys c zs → Delete r n ys c' zs' → (c ≡ c') × (zs ≡ zs')
  delete_tight r c c' zs zs' p q = (same p.answer q.answer, same p.slots q.slots)

  pub listing_tight : (k : Key) (old : List Wide) (p p' : Page) (new new' : List Wide) → Listing k n ys old p new → Listing k n ys old p' new'
      → (p ≡ p') × (new ≡ new')
  listing_tight k old p p' new new' a b = (same a.answer b.answer, same a.output b.output)

  -- the same calls on eight slots by value: lookup promises what is above; the others answer what they leave and their numbers in one struct
  pub shelf_insert_tight : (r : Entry) (b b' : Shelf) → b ≡ shelf_of (inserted_list r n ys) (insert_of r n ys)
      → b' ≡ shelf_of (inserted_list r n ys) (insert_of r n ys) → b ≡ b'
  shelf_insert_tight r b b' = same

  pub shelf_delete_tight : (r : Entry) (b b' : Shelf) → b ≡ shelf_of (deleted_list r n ys) (delete_of r n ys)
      → b' ≡ shelf_of (deleted_list r n ys) (delete_of r n ys) → b ≡ b'
  shelf_delete_tight r b b' = same

  pub shelf_listing_tight : (k : Key) (out : List Wide) (b b' : Sheet) → b ≡ sheet_of (listed_out k n ys out) (listing_of k n ys out)
      → b' ≡ sheet_of (listed_out k n ys out) (listing_of k n ys out) → b ≡ b'
  shelf_listing_tight k out b b' = same

  -- which are those that the calls on a slice promise, so that their laws above hold of it
  pub shelf_insert_promises : (r : Entry) (b : Shelf) → b ≡ shelf_of (inserted_list r n ys) (insert_of r n ys)
      → Insert r n ys (record { refusal = b.refusal; count = b.count }) b.slots
  shelf_insert_promises r b e =
      record { answer = ap (λ (x : Shelf). record { refusal = x.refusal; count = x.count }) e; slots = ap (λ (x : Shelf). x.slots) e }

  pub shelf_delete_promises : (r : Entry) (b : Shelf) → b ≡ shelf_of (deleted_list r n ys) (delete_of r n ys)
      → Delete r n ys (record { refusal = b.refusal; count = b.count }) b.slots
  shelf_delete_promises r b e =
      record { answer = ap (λ (x : Shelf). record { refusal = x.refusal; count = x.count }) e; slots = ap (λ (x : Shelf). x.slots) e }

  pub shelf_listing_promises : (k : Key) (out : List Wide) (b : Sheet) → b ≡ sheet_of (listed_out k n ys out) (listing_of k n ys out)
      → Listing k n ys out (record { refusal = b.refusal; count = b.count; more = b.more; next = b.next }) b.out
  shelf_listing_promises k out b e =
      record {
        answer = ap (λ (x : Sheet). record { refusal = x.refusal; count = x.count; more = x.more; next = x.next }) e;
        output = ap (λ (x : Sheet). x.out) e;
      }
