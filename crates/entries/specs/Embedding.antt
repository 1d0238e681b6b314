-- The old order lies in the new one, so that a catalogue of old records behaves as it did.
use Rattle.std.specs.Prelude.{◌≡◌, refl, ℕ, ◌≤◌, ◌<◌, Bool, ◌||◌, List, [], ◌∷◌, ◌++◌, map, ltb, leb, eqb, length, get_or, take, replicate}
use Rattle.std.proofs.Common.{sym, ◌∙◌, lt-ltb, le-ltb, le-leb}
use Rattle.std.proofs.Math.Path.{ap}
use Rattle.std.proofs.Math.Bool.{true, false, not}
use Rattle.std.proofs.lemmas.List.{length-map}
use Rattle.std.proofs.Math.ListN.{get_or-map}
use Rattle.std.proofs.lemmas.Bool.{lt-leb}
use Rattle.lists.specs.Pick.{pick, both, below_or_not}
use Rattle.lists.specs.Passing.{passing, nonempty, over}
use Rattle.lists.specs.Refusal.{refusal_by, grant}
use Rattle.entries.specs.declared.Wide.{Wide}
use Rattle.entries.specs.declared.Entry.{Entry}
use Rattle.entries.specs.declared.Found.{Found}
use Rattle.entries.specs.declared.Changed.{Changed}
use Rattle.entries.specs.declared.Page.{Page}
use Rattle.entries.specs.Wide.{nought, wide_lt, wide_eq}
use Rattle.entries.specs.Blank.{blank}
use Rattle.entries.specs.Key.{key_of, key_lt, key_eq, listable, rising, rising_from}
use Rattle.entries.specs.Catalogue.{before, holders, after, onward, sound, matches, cob_of, found_by, lookup_of, changed, inserted, insert_number, insert_of, inserted_list}
use Rattle.entries.specs.Catalogue.{removed, delete_number, delete_of, deleted_list, cobs, files, listing_tests, page_by, listing_of, listed_out}
use Rattle.entries.specs.Old.{OldEntry, old_lt, old_eq, old_rising_from, old_rising, old_sound, old_holders, old_cob_of, old_lookup, old_inserted, old_insert}
use Rattle.entries.specs.Old.{old_inserted_list, old_removed, old_delete, old_deleted_list, old_listable, old_cobs, old_files, old_listing, old_listed_out, widened, as_entry}
use Rattle.entries.specs.Maps.{map-append, map-take, map_replicate, map-over, nonempty-map, grant-on}

pub widened-lt : (a b : ℕ) → wide_lt (widened a) (widened b) ≡ ltb a b
unfolding wide_lt
widened-lt a b = refl

pub widened-eq : (a b : ℕ) → wide_eq (widened a) (widened b) ≡ eqb a b
unfolding wide_eq
widened-eq a b = refl

not_below : (a b : ℕ) → not (ltb a b) ≡ leb b a
not_below a b =
    below_or_not a b (λ (l : a < b). ap not (lt-ltb a b l) ∙ sym (lt-leb b a l)) (λ (l : b ≤ a). ap not (le-ltb a b l) ∙ sym (le-leb b a l))

module _ (a b : OldEntry) where
  pub same_lt : key_lt (key_of (as_entry a)) (key_of (as_entry b)) ≡ old_lt a b
  unfolding key_lt
  same_lt = ap (λ (t : Bool). pick (ltb a.device b.device) true (pick (ltb b.device a.device) false t)) (widened-lt a.file b.file)

  pub same_eq : key_eq (key_of (as_entry a)) (key_of (as_entry b)) ≡ old_eq a b
  unfolding key_eq
  same_eq = ap (both (eqb a.device b.device)) (widened-eq a.file b.file)

  pub same_listable : listable (key_of (as_entry a)) (key_of (as_entry b)) ≡ old_listable a b
  unfolding listable
  same_listable = ap (both (eqb b.device a.device)) (ap not (widened-lt b.file a.file) ∙ not_below b.file a.file)

-- ---- of lists

passing-on : (p : Entry → Bool) (q : OldEntry → Bool) → ((x : OldEntry) → p (as_entry x) ≡ q x) → (xs : List OldEntry)
    → passing p (map as_entry xs) ≡ map as_entry (passing q xs)
passing-on p q h [] = refl
passing-on p q h (x ∷ xs) =
    ap (λ (t : Bool). pick t (as_entry x ∷ passing p (map as_entry xs)) (passing p (map as_entry xs))) (h x)
    ∙ ap (λ (l : List Entry). pick (q x) (as_entry x ∷ l) l) (passing-on p q h xs) ∙ by_test (q x)
  where
    by_test : (t : Bool) → pick t (as_entry x ∷ map as_entry (passing q xs)) (map as_entry (passing q xs)) ≡ map as_entry (pick t (x ∷ passing q xs)
        (passing q xs))
    by_test true = refl
    by_test false = refl

rising_from_lem : (a : OldEntry) (xs : List OldEntry) → rising_from (key_of (as_entry a)) (map as_entry xs) ≡ old_rising_from a xs
rising_from_lem a [] = refl
rising_from_lem a (x ∷ xs) =
    ap (λ (t : Bool). both t (rising_from (key_of (as_entry x)) (map as_entry xs))) (same_lt a x) ∙ ap (both (old_lt a x)) (rising_from_lem x xs)

pub same_rising : (xs : List OldEntry) → rising (map as_entry xs) ≡ old_rising xs
same_rising [] = refl
same_rising (x ∷ xs) = rising_from_lem x xs

pub same_sound : (n : ℕ) (ys : List OldEntry) → sound n (map as_entry ys) ≡ old_sound n ys
same_sound n ys =
    ap (λ (m : ℕ). both (leb n m) (rising (take n (map as_entry ys)))) (length-map ys as_entry)
    ∙ ap (both (leb n (length ys))) (ap rising (sym (map-take as_entry n ys)) ∙ same_rising (take n ys))

module _ (r : OldEntry) (xs : List OldEntry) where
  pub same_before : before (key_of (as_entry r)) (map as_entry xs) ≡ map as_entry (passing (λ x. old_lt x r) xs)
  same_before = passing-on (λ x. key_lt (key_of x) (key_of (as_entry r))) (λ x. old_lt x r) (λ x. same_lt x r) xs

  pub same_holders : holders (key_of (as_entry r)) (map as_entry xs) ≡ map as_entry (passing (λ x. old_eq x r) xs)
  same_holders = passing-on (λ x. key_eq (key_of x) (key_of (as_entry r))) (λ x. old_eq x r) (λ x. same_eq x r) xs

  pub same_after : after (key_of (as_entry r)) (map as_entry xs) ≡ map as_entry (passing (λ x. old_lt r x) xs)
  same_after = passing-on (λ x. key_lt (key_of (as_entry r)) (key_of x)) (λ x. old_lt r x) (λ x. same_lt r x) xs

  pub same_onward : onward (key_of (as_entry r)) (map as_entry xs) ≡ map as_entry (passing (λ x. old_listable r x) xs)
  same_onward = passing-on (λ x. listable (key_of (as_entry r)) (key_of x)) (λ x. old_listable r x) (λ x. same_listable r x) xs

  pub same_matches : matches (as_entry r) (map as_entry xs) ≡ map as_entry (passing (λ x. eqb x.cob r.cob) (passing (λ x. old_eq x r) xs))
  same_matches =
      ap (passing (λ (x : Entry). wide_eq x.cob (as_entry r).cob)) same_holders
      ∙ passing-on (λ x. wide_eq x.cob (as_entry r).cob) (λ x. eqb x.cob r.cob) (λ x. widened-eq x.cob r.cob)
      (passing (λ x. old_eq x r) xs)

  same_inserted : inserted (as_entry r) (map as_entry xs) ≡ map as_entry (old_inserted r xs)
  same_inserted =
      ap (λ (l : List Entry). l ++ as_entry r ∷ after (key_of (as_entry r)) (map as_entry xs)) same_before
      ∙ ap (λ (l : List Entry). map as_entry (passing (λ x. old_lt x r) xs) ++ as_entry r ∷ l) same_after
      ∙ sym (map-append as_entry (passing (λ x. old_lt x r) xs) (r ∷ passing (λ x. old_lt r x) xs))

  same_removed : removed (as_entry r) (map as_entry xs) ≡ map as_entry (old_removed r xs)
  same_removed =
      ap (λ (l : List Entry). l ++ after (key_of (as_entry r)) (map as_entry xs)) same_before
      ∙ ap (λ (l : List Entry). map as_entry (passing (λ x. old_lt x r) xs) ++ l) same_after
      ∙ sym (map-append as_entry (passing (λ x. old_lt x r) xs) (passing (λ x. old_lt r x) xs))

  same_cobs : cobs (key_of (as_entry r)) (map as_entry xs) ≡ map widened (old_cobs r xs)
  same_cobs = ap (map (λ (e : Entry). e.cob)) same_onward ∙ of_each (passing (λ x. old_listable r x) xs)
    where
      of_each : (ls : List OldEntry) → map (λ (e : Entry). e.cob) (map as_entry ls) ≡ map widened (map (λ (x : OldEntry). x.cob) ls)
      of_each [] = refl
      of_each (x ∷ ls) = ap {B = List Wide} (λ t. widened x.cob ∷ t) (of_each ls)

  same_files : files (onward (key_of (as_entry r)) (map as_entry xs)) ≡ map widened (old_files r xs)
  same_files = ap files same_onward ∙ of_each (passing (λ x. old_listable r x) xs)
    where
      of_each : (ls : List OldEntry) → files (map as_entry ls) ≡ map widened (map (λ (x : OldEntry). x.file) ls)
      of_each [] = refl
      of_each (x ∷ ls) = ap {B = List Wide} (λ t. widened x.file ∷ t) (of_each ls)

-- ---- of the calls

two_tests : (s s' t t' : Bool) (m : ℕ) → s ≡ s' → t ≡ t' → refusal_by ((s, 9) ∷ (t, m) ∷ []) ≡ refusal_by ((s', 9) ∷ (t', m) ∷ [])
two_tests s s' t t' m e f = ap (λ (b : Bool). refusal_by ((b, 9) ∷ (t, m) ∷ [])) e ∙ ap (λ (b : Bool). refusal_by ((s', 9) ∷ (b, m) ∷ [])) f

-- a change of slots: accepted, and refused
same_change : (number number' : ℕ) (zs : List Entry) (zs' ys : List OldEntry) → number ≡ number' → zs ≡ map as_entry zs'
    → grant number (over zs (map as_entry ys)) (map as_entry ys) ≡ map as_entry (grant number' (over zs' ys) ys)
same_change number number' zs zs' ys e f =
    ap (λ (m : ℕ). grant m (over zs (map as_entry ys)) (map as_entry ys)) e
    ∙ ap (λ (l : List Entry). grant number' l (map as_entry ys)) (ap (λ (l : List Entry). over l (map as_entry ys)) f ∙ sym (map-over as_entry zs' ys))
    ∙ grant-on (map as_entry) number' (over zs' ys) ys

module _ (r : OldEntry) (n : ℕ) (ys : List OldEntry) where
  -- the first n records
  first_n : take n (map as_entry ys) ≡ map as_entry (take n ys)
  first_n = sym (map-take as_entry n ys)

  held : nonempty (holders (key_of (as_entry r)) (take n (map as_entry ys))) ≡ nonempty (old_holders r (take n ys))
  held =
      ap (λ (l : List Entry). nonempty (holders (key_of (as_entry r)) l)) first_n ∙ ap nonempty (same_holders r (take n ys))
      ∙ nonempty-map as_entry (old_holders r (take n ys))

  lookup_number : (lookup_of (key_of (as_entry r)) n (map as_entry ys)).refusal ≡ old_lookup r n ys
  lookup_number = two_tests _ (old_sound n ys) _ (nonempty (old_holders r (take n ys))) 11 (same_sound n ys) held

  pub same_lookup : lookup_of (key_of (as_entry r)) n (map as_entry ys)
      ≡ record { refusal = old_lookup r n ys; cob = widened (grant (old_lookup r n ys) (old_cob_of (old_holders r (take n ys))) 0) }
  same_lookup =
      ap (λ (m : ℕ). found_by m (cob_of (holders (key_of (as_entry r)) (take n (map as_entry ys))))) lookup_number
      ∙ ap (found_by (old_lookup r n ys)) (ap (λ (l : List Entry). cob_of (holders (key_of (as_entry r)) l)) first_n ∙ ap cob_of (same_holders r (take n ys))
      ∙ record_cob (old_holders r (take n ys)))
      ∙ ap {B = Found} (λ (w : Wide). record { refusal = old_lookup r n ys; cob = w })
      (grant-on widened (old_lookup r n ys) (old_cob_of (old_holders r (take n ys))) 0)
    where
      record_cob : (hs : List OldEntry) → cob_of (map as_entry hs) ≡ widened (old_cob_of hs)
      record_cob [] = refl
      record_cob (h ∷ hs) = refl

  insert_number_lem : insert_number (as_entry r) n (map as_entry ys) ≡ old_insert r n ys
  insert_number_lem =
      two_tests _ (old_sound n ys) _ (nonempty (old_holders r (take n ys)) || ltb n (length ys)) 10 (same_sound n ys)
      (ap (λ (b : Bool). b || ltb n (length (map as_entry ys))) held
      ∙ ap (λ (m : ℕ). nonempty (old_holders r (take n ys)) || ltb n m) (length-map ys as_entry))

  inserted_is : inserted (as_entry r) (take n (map as_entry ys)) ≡ map as_entry (old_inserted r (take n ys))
  inserted_is = ap (inserted (as_entry r)) first_n ∙ same_inserted r (take n ys)

  pub same_insert : insert_of (as_entry r) n (map as_entry ys)
      ≡ record { refusal = old_insert r n ys; count = grant (old_insert r n ys) (length (old_inserted r (take n ys))) n }
  same_insert =
      ap (λ (m : ℕ). changed m n (inserted (as_entry r) (take n (map as_entry ys)))) insert_number_lem
      ∙ ap {B = Changed} (λ (m : ℕ). record { refusal = old_insert r n ys; count = grant (old_insert r n ys) m n })
      (ap length inserted_is ∙ length-map (old_inserted r (take n ys)) as_entry)

  pub same_insert_slots : inserted_list (as_entry r) n (map as_entry ys) ≡ map as_entry (old_inserted_list r n ys)
  same_insert_slots = same_change _ (old_insert r n ys) _ (old_inserted r (take n ys)) ys insert_number_lem inserted_is

  delete_number_lem : delete_number (as_entry r) n (map as_entry ys) ≡ old_delete r n ys
  delete_number_lem =
      two_tests _ (old_sound n ys) _ (nonempty (passing (λ x. eqb x.cob r.cob) (old_holders r (take n ys)))) 11 (same_sound n ys)
      (ap (λ (l : List Entry). nonempty (matches (as_entry r) l)) first_n ∙ ap nonempty (same_matches r (take n ys))
      ∙ nonempty-map as_entry (passing (λ x. eqb x.cob r.cob) (old_holders r (take n ys))))

  removed_is : removed (as_entry r) (take n (map as_entry ys)) ≡ map as_entry (old_removed r (take n ys))
  removed_is = ap (removed (as_entry r)) first_n ∙ same_removed r (take n ys)

  pub same_delete : delete_of (as_entry r) n (map as_entry ys)
      ≡ record { refusal = old_delete r n ys; count = grant (old_delete r n ys) (length (old_removed r (take n ys))) n }
  same_delete =
      ap (λ (m : ℕ). changed m n (removed (as_entry r) (take n (map as_entry ys)))) delete_number_lem
      ∙ ap {B = Changed} (λ (m : ℕ). record { refusal = old_delete r n ys; count = grant (old_delete r n ys) m n })
      (ap length removed_is ∙ length-map (old_removed r (take n ys)) as_entry)

  pub same_delete_slots : deleted_list (as_entry r) n (map as_entry ys) ≡ map as_entry (old_deleted_list r n ys)
  same_delete_slots =
      same_change _ (old_delete r n ys) _ (old_removed r (take n ys) ++ record { device = 0; file = 0; cob = 0 } ∷ []) ys delete_number_lem
      (ap (λ (l : List Entry). l ++ blank ∷ []) removed_is
      ∙ sym (map-append as_entry (old_removed r (take n ys)) (record { device = 0; file = 0; cob = 0 } ∷ [])))

  -- ---- a listing, into an output of widened numbers

  module _ (out : List ℕ) where
    listing_number : refusal_by (listing_tests n (map as_entry ys)) ≡ old_listing n ys
    listing_number = ap (λ (b : Bool). refusal_by ((b, 9) ∷ [])) (same_sound n ys)

    cobs_are : cobs (key_of (as_entry r)) (take n (map as_entry ys)) ≡ map widened (old_cobs r (take n ys))
    cobs_are = ap (cobs (key_of (as_entry r))) first_n ∙ same_cobs r (take n ys)

    taken : take (length (map widened out)) (cobs (key_of (as_entry r)) (take n (map as_entry ys)))
        ≡ map widened (take (length out) (old_cobs r (take n ys)))
    taken =
        ap (λ (m : ℕ). take m (cobs (key_of (as_entry r)) (take n (map as_entry ys)))) (length-map out widened)
        ∙ ap (take (length out)) cobs_are ∙ sym (map-take widened (length out) (old_cobs r (take n ys)))

    pub same_listing : listing_of (key_of (as_entry r)) n (map as_entry ys) (map widened out) ≡ record {
      refusal = old_listing n ys;
      count = grant (old_listing n ys) (length (take (length out) (old_cobs r (take n ys)))) 0;
      more = grant (old_listing n ys) (ltb (length out) (length (old_cobs r (take n ys)))) false;
      next = widened (grant (old_listing n ys) (get_or (old_files r (take n ys)) (length out) 0) 0);
    }
    same_listing =
        ap (λ (m : ℕ). page_by m (length (take (length (map widened out)) (cobs (key_of (as_entry r)) (take n (map as_entry ys))))) more next) listing_number
        ∙ ap (λ (m : ℕ). page_by (old_listing n ys) m more next) (ap length taken ∙ length-map (take (length out) (old_cobs r (take n ys))) widened)
        ∙ ap (λ (b : Bool). page_by (old_listing n ys) (length (take (length out) (old_cobs r (take n ys)))) b next) more_is
        ∙ ap (page_by (old_listing n ys) (length (take (length out) (old_cobs r (take n ys)))) (ltb (length out) (length (old_cobs r (take n ys))))) next_is
        ∙ ap {B = Page} (λ (w : Wide). record {
          refusal = old_listing n ys;
          count = grant (old_listing n ys) (length (take (length out) (old_cobs r (take n ys)))) 0;
          more = grant (old_listing n ys) (ltb (length out) (length (old_cobs r (take n ys)))) false;
          next = w;
        }) (grant-on widened (old_listing n ys) (get_or (old_files r (take n ys)) (length out) 0) 0)
      where
        more : Bool
        more = ltb (length (map widened out)) (length (cobs (key_of (as_entry r)) (take n (map as_entry ys))))

        next : Wide
        next = get_or (files (onward (key_of (as_entry r)) (take n (map as_entry ys)))) (length (map widened out)) nought

        more_is : more ≡ ltb (length out) (length (old_cobs r (take n ys)))
        more_is =
            ap (λ (m : ℕ). ltb m (length (cobs (key_of (as_entry r)) (take n (map as_entry ys))))) (length-map out widened)
            ∙ ap (ltb (length out)) (ap length cobs_are ∙ length-map (old_cobs r (take n ys)) widened)

        next_is : next ≡ widened (get_or (old_files r (take n ys)) (length out) 0)
        next_is =
            ap (λ (m : ℕ). get_or (files (onward (key_of (as_entry r)) (take n (map as_entry ys)))) m nought) (length-map out widened)
            ∙ ap (λ (l : List Wide). get_or l (length out) nought) (ap (λ (l : List Entry). files (onward (key_of (as_entry r)) l)) first_n
            ∙ same_files r (take n ys))
            ∙ get_or-map widened (old_files r (take n ys)) (length out) 0

    pub same_listed : listed_out (key_of (as_entry r)) n (map as_entry ys) (map widened out) ≡ map widened (old_listed_out r n ys out)
    same_listed =
        ap (λ (m : ℕ). grant m (over (take (length (map widened out)) (cobs (key_of (as_entry r)) (take n (map as_entry ys)))) (map widened out))
        (replicate (length (map widened out)) nought)) listing_number
        ∙ ap (λ (l : List Wide). grant (old_listing n ys) l (replicate (length (map widened out)) nought)) (ap (λ (l : List Wide). over l (map widened out))
        taken ∙ sym (map-over widened (take (length out) (old_cobs r (take n ys))) out))
        ∙ ap (grant (old_listing n ys) (map widened (over (take (length out) (old_cobs r (take n ys))) out)))
        (ap (λ (m : ℕ). replicate m nought) (length-map out widened) ∙ sym (map_replicate widened (length out) 0))
        ∙ grant-on (map widened) (old_listing n ys) (over (take (length out) (old_cobs r (take n ys))) out) (replicate (length out) 0)
