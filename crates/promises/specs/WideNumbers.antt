-- Document 02, order 5: files and cobs are 128 bits wide, "two 64-bit words, the first the more significant", ordered "by the pair"; and a catalogue
-- of document 01, its 64-bit numbers taken as (0, number), behaves as before.
use Rattle.std.specs.Prelude.{◌≡◌, Bool, true, false, List, map, ℕ, ◌<◌, ◌^◌, ltb, eqb, length, get_or, take}
use Rattle.std.proofs.Common.{ap}
use Rattle.lists.specs.Pick.{pick}
use Rattle.lists.specs.Refusal.{grant}
use Rattle.entries.specs.declared.Wide.{Wide}
use Rattle.entries.specs.declared.Key.{Key}
use Rattle.entries.specs.Wide.{wide_lt, wide_eq, number_of}
use Rattle.entries.specs.WideOrder.{wide_order, wide_equal}
use Rattle.entries.specs.Key.{key_of, key_lt, key_eq, listable}
use Rattle.entries.specs.Catalogue.{lookup_of, insert_of, inserted_list, delete_of, deleted_list, listing_of, listed_out}
use Rattle.entries.specs.Old.{OldEntry, old_lt, old_eq, old_listable, old_holders, old_cob_of, old_lookup, old_inserted, old_insert, old_inserted_list}
use Rattle.entries.specs.Old.{old_removed, old_delete, old_deleted_list, old_cobs, old_files, old_listing, old_listed_out, widened, as_entry}
use Rattle.entries.specs.Embedding as E

-- ---- the order

module _ (a b : Wide) (p : a.second < 2 ^ 64) (q : b.second < 2 ^ 64) where
  -- the order of the pairs is the order of the numbers first·2^64 + second
  pub order_of_the_numbers : wide_lt a b ≡ ltb (number_of a) (number_of b)
  order_of_the_numbers = wide_order a b p q

  pub equal_as_numbers : wide_eq a b ≡ eqb (number_of a) (number_of b)
  equal_as_numbers = wide_equal a b p q

-- so keys go by device and then by that number
pub order_of_the_keys : (a b : Key) → a.file.second < 2 ^ 64 → b.file.second < 2 ^ 64
    → key_lt a b ≡ pick (ltb a.device b.device) true (pick (ltb b.device a.device) false (ltb (number_of a.file) (number_of b.file)))
unfolding key_lt
order_of_the_keys a b p q =
    ap (λ (t : Bool). pick (ltb a.device b.device) true (pick (ltb b.device a.device) false t)) (wide_order a.file b.file p q)

-- ---- an old catalogue

-- the old order in the new one, and with it every test of a key and of a cob
pub record SameTests (a b : OldEntry) : Type 0 where
  pub order : key_lt (key_of (as_entry a)) (key_of (as_entry b)) ≡ old_lt a b
  pub equal : key_eq (key_of (as_entry a)) (key_of (as_entry b)) ≡ old_eq a b
  pub listed : listable (key_of (as_entry a)) (key_of (as_entry b)) ≡ old_listable a b
  pub cobs : wide_eq (as_entry a).cob (as_entry b).cob ≡ eqb a.cob b.cob

pub old_order_embeds : (a b : OldEntry) → SameTests a b
old_order_embeds a b =
    record { order = E.same_lt a b; equal = E.same_eq a b; listed = E.same_listable a b; cobs = E.widened-eq a.cob b.cob }

-- so every call answers and leaves what document 01's did, of the same records, key and output
pub record BehavesAsBefore (n : ℕ) (r : OldEntry) (ys : List OldEntry) (out : List ℕ) : Type 0 where
  pub lookup : lookup_of (key_of (as_entry r)) n (map as_entry ys)
      ≡ record { refusal = old_lookup r n ys; cob = widened (grant (old_lookup r n ys) (old_cob_of (old_holders r (take n ys))) 0) }
  pub insert : insert_of (as_entry r) n (map as_entry ys)
      ≡ record { refusal = old_insert r n ys; count = grant (old_insert r n ys) (length (old_inserted r (take n ys))) n }
  pub insert_slots : inserted_list (as_entry r) n (map as_entry ys) ≡ map as_entry (old_inserted_list r n ys)
  pub delete : delete_of (as_entry r) n (map as_entry ys)
      ≡ record { refusal = old_delete r n ys; count = grant (old_delete r n ys) (length (old_removed r (take n ys))) n }
  pub delete_slots : deleted_list (as_entry r) n (map as_entry ys) ≡ map as_entry (old_deleted_list r n ys)
  pub listing : listing_of (key_of (as_entry r)) n (map as_entry ys) (map widened out) ≡ record {
    refusal = old_listing n ys;
    count = grant (old_listing n ys) (length (take (length out) (old_cobs r (take n ys)))) 0;
    more = grant (old_listing n ys) (ltb (length out) (length (old_cobs r (take n ys)))) false;
    next = widened (grant (old_listing n ys) (get_or (old_files r (take n ys)) (length out) 0) 0);
  }
  pub output : listed_out (key_of (as_entry r)) n (map as_entry ys) (map widened out) ≡ map widened (old_listed_out r n ys out)

pub old_catalogue_behaves : (n : ℕ) (r : OldEntry) (ys : List OldEntry) (out : List ℕ) → BehavesAsBefore n r ys out
old_catalogue_behaves n r ys out =
    record {
      lookup = E.same_lookup r n ys;
      insert = E.same_insert r n ys;
      insert_slots = E.same_insert_slots r n ys;
      delete = E.same_delete r n ys;
      delete_slots = E.same_delete_slots r n ys;
      listing = E.same_listing r n ys out;
      output = E.same_listed r n ys out;
    }
