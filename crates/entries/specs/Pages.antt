-- Listings that are continued at the next file number visit every cob of the device once, in file order.
use Rattle.std.specs.Prelude.{◌≡◌, refl, ℕ, zero, suc, ◌≤◌, ◌<◌, Bool, true, false, not, List, [], ◌∷◌, ◌++◌, map, ltb, leb, eqb, length, get_or, take, drop, replicate}
use Rattle.std.proofs.Common.{sym, ap, ◌∙◌, subst, not-suc-le-zero, le_of_suc-le-suc, arith, append-nil, length-drop, take-append-drop, take_all, ltb-true, ltb-false, eqb-true, eq-eqb}
use Rattle.std.proofs.lemmas.List.{length-map, length-replicate}
use Rattle.std.proofs.Math.ListN.{get_or-map}
use Rattle.std.proofs.Math.Seq.{take-append_seam}
use Rattle.std.proofs.lemmas.Bool.{not-true}
use Rattle.lists.specs.Pick.{pick, both, both_true, both_hold}
use Rattle.lists.specs.Passing.{passing, passing_yes, passing_no, passing_stronger, over}
use Rattle.lists.specs.Refusal.{refusal_by, refusal_none, grant}
use Rattle.entries.specs.declared.Wide.{Wide}
use Rattle.entries.specs.declared.Entry.{Entry}
use Rattle.entries.specs.declared.Key.{Key}
use Rattle.entries.specs.declared.Page.{Page}
use Rattle.entries.specs.Wide.{nought, wide_lt}
use Rattle.entries.specs.WideOrder.{wide_irrefl, wide_trans, not_wide_lt, wide_le_trans, none_below}
use Rattle.entries.specs.Blank.{blank}
use Rattle.entries.specs.Key.{key_of, listable, rising, rising_from}
use Rattle.entries.specs.Orders.{Lt, by_device, by_file, lt_trans, lt_no}
use Rattle.entries.specs.Splits.{first_lt, rest_rises, cons_rises, rising-tail}
use Rattle.entries.specs.Catalogue.{onward, sound, cobs, files, listing_tests, page_by, listing_of, listed_out}
use Rattle.entries.specs.Maps.{map-drop}
use Rattle.entries.specs.Laws.{lower}

-- ---- being listed
pub listed_of : (k a : Key) → listable k a ≡ true → (a.device ≡ k.device) × (wide_lt a.file k.file ≡ false)
unfolding listable
listed_of k a h = (
  eqb-true a.device k.device (both_true (eqb a.device k.device) (not (wide_lt a.file k.file)) h).0,
  not-true (wide_lt a.file k.file) (both_true (eqb a.device k.device) (not (wide_lt a.file k.file)) h).1,
)

of_listed : (k a : Key) → a.device ≡ k.device → wide_lt a.file k.file ≡ false → listable k a ≡ true
unfolding listable
of_listed k a e l =
    both_hold (eqb a.device k.device) (not (wide_lt a.file k.file)) (eq-eqb a.device k.device e) (ap not l)

-- of two keys that are listed, the later one is listed from the earlier one on
later : (k a b : Key) → listable k a ≡ true → listable k b ≡ true → Lt a b → listable a b ≡ true
later k a b p q l = of_listed a b ((listed_of k b q).0 ∙ sym (listed_of k a p).0) (by_lt l)
  where
    by_lt : Lt a b → wide_lt b.file a.file ≡ false
    by_lt (by_device m) = absurd (omega (arith, m, (listed_of k a p).0, (listed_of k b q).0))
    by_lt (by_file e m) = not_wide_lt b.file a.file (λ w. wide_irrefl (wide_trans m w))

wider : (k a b : Key) → listable k a ≡ true → listable a b ≡ true → listable k b ≡ true
wider k a b p q =
    of_listed k b ((listed_of a b q).0 ∙ (listed_of k a p).0) (wide_le_trans k.file a.file b.file (listed_of k a p).1 (listed_of a b q).1)

-- ---- a part of a rising list
part-on : (b : Bool) (a : Key) (x : Entry) (qs : List Entry) → Lt a (key_of x) → rising_from (key_of x) qs ≡ true
    → rising_from a (pick b (x ∷ qs) qs) ≡ true
part-on true a x qs l h = cons_rises a x qs l h
part-on false a x qs l h = lower a (key_of x) qs l h

part_from : (p : Entry → Bool) (a : Key) (xs : List Entry) → rising_from a xs ≡ true → rising_from a (passing p xs) ≡ true
part_from p a [] h = refl
part_from p a (x ∷ xs) h = part-on (p x) a x (passing p xs) (first_lt a x xs h) (part_from p (key_of x) xs (rest_rises a x xs h))

head_on : (b : Bool) (x : Entry) (qs : List Entry) → rising_from (key_of x) qs ≡ true → rising (pick b (x ∷ qs) qs) ≡ true
head_on true x qs h = h
head_on false x qs h = rising-tail (key_of x) qs h

part_rises : (p : Entry → Bool) (xs : List Entry) → rising xs ≡ true → rising (passing p xs) ≡ true
part_rises p [] h = refl
part_rises p (x ∷ xs) h = head_on (p x) x (passing p xs) (part_from p (key_of x) xs h)

-- ---- a list of which all is listed from k on
abbrev Listed : Key → List Entry → Type 0
Listed k [] = Unit {0}
Listed k (x ∷ xs) = (listable k (key_of x) ≡ true) × Listed k xs

all-on : (b : Bool) (k : Key) (x : Entry) (qs : List Entry) → listable k (key_of x) ≡ b → Listed k qs → Listed k (pick b (x ∷ qs) qs)
all-on true k x qs e l = (e, l)
all-on false k x qs e l = l

all-onward : (k : Key) (xs : List Entry) → Listed k (onward k xs)
all-onward k [] = tt
all-onward k (x ∷ xs) = all-on (listable k (key_of x)) k x (onward k xs) refl (all-onward k xs)

all_nth : (k : Key) (m : ℕ) (ls : List Entry) → Listed k ls → m < length ls → listable k (key_of (get_or ls m blank)) ≡ true
all_nth k m [] h l = absurd (not-suc-le-zero l)
all_nth k zero (x ∷ ls) h l = h.0
all_nth k (suc m) (x ∷ ls) h l = all_nth k m ls h.1 (le_of_suc-le-suc l)

nth_above : (a : Key) (m : ℕ) (ls : List Entry) → rising_from a ls ≡ true → m < length ls → Lt a (key_of (get_or ls m blank))
nth_above a m [] h l = absurd (not-suc-le-zero l)
nth_above a zero (x ∷ ls) h l = first_lt a x ls h
nth_above a (suc m) (x ∷ ls) h l = lt_trans (first_lt a x ls h) (nth_above (key_of x) m ls (rest_rises a x ls h) (le_of_suc-le-suc l))

tail_all : (k a : Key) (ls : List Entry) → listable k a ≡ true → Listed k ls → rising_from a ls ≡ true → onward a ls ≡ ls
tail_all k a [] p h r = refl
tail_all k a (x ∷ ls) p h r = passing_yes (λ y. listable a (key_of y)) x ls (later k a (key_of x) p h.0 (first_lt a x ls r))
    ∙ ap {B = List Entry} (λ t. x ∷ t) (tail_all k a ls p h.1 (lower a (key_of x) ls (first_lt a x ls r) (rest_rises a x ls r)))

-- from the key of its element m on, such a list is what follows its first m elements
from_nth : (k : Key) (m : ℕ) (ls : List Entry) → rising ls ≡ true → Listed k ls → m < length ls → onward (key_of (get_or ls m blank)) ls ≡ drop m ls
from_nth k m [] r h l = absurd (not-suc-le-zero l)
from_nth k zero (x ∷ ls) r h l =
    passing_yes (λ y. listable (key_of x) (key_of y)) x ls (of_listed (key_of x) (key_of x) refl (not_wide_lt x.file x.file wide_irrefl))
    ∙ ap {B = List Entry} (λ t. x ∷ t) (tail_all k (key_of x) ls h.0 h.1 r)
from_nth k (suc m) (x ∷ ls) r h l =
    passing_no (λ y. listable (key_of (get_or ls m blank)) (key_of y)) x ls (lt_no (nth_above (key_of x) m ls r (le_of_suc-le-suc l)))
    ∙ from_nth k m ls (rising-tail (key_of x) ls r) h.1 (le_of_suc-le-suc l)

-- ---- the key at which a listing is continued
abbrev pub next_key : Key → ℕ → List Entry → Key
next_key k m xs = record { device = k.device; file = get_or (files (onward k xs)) m nought }

pub continued : (k : Key) (m : ℕ) (xs : List Entry) → rising xs ≡ true → m < length (onward k xs) → onward (next_key k m xs) xs ≡ drop m (onward k xs)
continued k m xs r l =
    ap (λ (z : Key). onward z xs) key_is
    ∙ sym (passing_stronger (λ y. listable z (key_of y)) (λ y. listable k (key_of y)) xs (λ y h. wider k z (key_of y) here h))
    ∙ from_nth k m (onward k xs) (part_rises (λ y. listable k (key_of y)) xs r) (all-onward k xs) l
  where
    z : Key
    z = key_of (get_or (onward k xs) m blank)

    here : listable k z ≡ true
    here = all_nth k m (onward k xs) (all-onward k xs) l

    key_is : next_key k m xs ≡ z
    key_is =
        ap {B = Key} (λ (d : ℕ). record { device = d; file = get_or (files (onward k xs)) m nought }) (sym (listed_of k z here).0)
        ∙ ap {B = Key} (λ (f : Wide). record { device = z.device; file = f }) (get_or-map (λ (y : Entry). y.file) (onward k xs) m blank)

pub continued_cobs : (k : Key) (m : ℕ) (xs : List Entry) → rising xs ≡ true → m < length (cobs k xs) → cobs (next_key k m xs) xs ≡ drop m (cobs k xs)
continued_cobs k m xs r l =
    ap (map (λ (y : Entry). y.cob)) (continued k m xs r (subst (λ (j : ℕ). m < j) (length-map (onward k xs) (λ (y : Entry). y.cob)) l))
    ∙ map-drop (λ (y : Entry). y.cob) m (onward k xs)

-- ---- all of them: the outputs of at most t listings into m places, one after the other
unfoldable pub pages : ℕ → ℕ → Key → List Entry → List Wide
pages zero m k xs = []
pages (suc t) m k xs = take m (cobs k xs) ++ pick (ltb m (length (cobs k xs))) (pages t m (next_key k m xs) xs) []

pub pages-all : (t m : ℕ) (k : Key) (xs : List Entry) → rising xs ≡ true → 0 < m → length (cobs k xs) ≤ t → pages t m k xs ≡ cobs k xs
unfolding pages
pages-all zero m k xs r p l = sym (nothing_left (cobs k xs) l)
  where
    nothing_left : (ls : List Wide) → length ls ≤ 0 → ls ≡ []
    nothing_left [] h = refl
    nothing_left (x ∷ ls) h = absurd (not-suc-le-zero h)
pages-all (suc t) m k xs r p l =
    by_test (ltb m (length (cobs k xs))) refl (λ q. pages-all t m (next_key k m xs) xs r p (omega (
      arith,
      ap length (continued_cobs k m xs r q),
      length-drop m (cobs k xs),
    )))
  where
    by_test : (b : Bool) → ltb m (length (cobs k xs)) ≡ b → (m < length (cobs k xs) → pages t m (next_key k m xs) xs ≡ cobs (next_key k m xs) xs)
        → take m (cobs k xs) ++ pick b (pages t m (next_key k m xs) xs) [] ≡ cobs k xs
    by_test true e i =
        ap (λ (ls : List Wide). take m (cobs k xs) ++ ls) (i (ltb-true m (length (cobs k xs)) e) ∙ continued_cobs k m xs r (ltb-true m (length
        (cobs k xs)) e))
        ∙ take-append-drop m (cobs k xs)
    by_test false e i = append-nil (take m (cobs k xs)) ∙ take_all m (cobs k xs) (ltb-false m (length (cobs k xs)) e)

-- ---- from file (0,0) on these are all the records of the device

both_right : (a : Bool) → both a true ≡ a
both_right true = refl
both_right false = refl

pub from_zero : (d : ℕ) (xs : List Entry) → onward (record { device = d; file = nought }) xs ≡ passing (λ (r : Entry). eqb r.device d) xs
unfolding listable
from_zero d [] = refl
from_zero d (x ∷ xs) =
    ap (λ (b : Bool). pick b (x ∷ onward k xs) (onward k xs))
    (ap (λ (t : Bool). both (eqb x.device d) (not t)) (none_below x.file) ∙ both_right (eqb x.device d))
    ∙ ap (λ (ls : List Entry). pick (eqb x.device d) (x ∷ ls) ls) (from_zero d xs)
  where
    k : Key
    k = record { device = d; file = nought }

-- ---- the same, of the calls: what at most t listings in a row write, each into m places, continued at the next file number while more remain

unfoldable pub visited : ℕ → ℕ → Key → ℕ → List Entry → List Wide
visited zero m k n ys = []
visited (suc t) m k n ys =
    take (listing_of k n ys (replicate m nought)).count (listed_out k n ys (replicate m nought))
    ++ pick (listing_of k n ys (replicate m nought)).more (visited t m (record { device = k.device; file = (listing_of k n ys (replicate m nought)).next }) n ys) []

-- one of them, in an ordered catalogue
module _ (m : ℕ) (k : Key) (n : ℕ) (ys : List Entry) (s : sound n ys ≡ true) where
  accepted : refusal_by (listing_tests n ys) ≡ 0
  accepted = refusal_none (listing_tests n ys) (s, tt)

  page_is : listing_of k n ys (replicate m nought) ≡ page_by 0 (length (take m (cobs k (take n ys)))) (ltb m (length (cobs k (take n ys)))) (get_or (files (onward k
      (take n ys))) m nought)
  page_is =
      ap (λ (j : ℕ). page_by (refusal_by (listing_tests n ys)) (length (take j (cobs k (take n ys)))) (ltb j (length (cobs k (take n ys)))) (get_or (files
      (onward k (take n ys))) j nought)) (length-replicate m nought)
      ∙ ap (λ (j : ℕ). page_by j (length (take m (cobs k (take n ys)))) (ltb m (length (cobs k (take n ys)))) (get_or (files (onward k
      (take n ys))) m nought)) accepted

  out_is : listed_out k n ys (replicate m nought) ≡ over (take m (cobs k (take n ys))) (replicate m nought)
  out_is =
      ap (λ (j : ℕ). grant j (over (take (length (replicate m nought)) (cobs k (take n ys))) (replicate m nought)) (replicate (length (replicate m nought)) nought)) accepted
      ∙ ap (λ (j : ℕ). over (take j (cobs k (take n ys))) (replicate m nought)) (length-replicate m nought)

  written_is : take (listing_of k n ys (replicate m nought)).count (listed_out k n ys (replicate m nought)) ≡ take m (cobs k (take n ys))
  written_is =
      ap (λ (p : Page). take p.count (listed_out k n ys (replicate m nought))) page_is
      ∙ ap (take (length (take m (cobs k (take n ys))))) out_is
      ∙ take-append_seam (take m (cobs k (take n ys))) (drop (length (take m (cobs k (take n ys)))) (replicate m nought))

visited-pages : (t m : ℕ) (k : Key) (n : ℕ) (ys : List Entry) → sound n ys ≡ true → visited t m k n ys ≡ pages t m k (take n ys)
unfolding visited pages
visited-pages zero m k n ys s = refl
visited-pages (suc t) m k n ys s =
    ap (λ (l : List Wide). l ++ pick (listing_of k n ys (replicate m nought)).more (visited t m (record {
      device = k.device;
      file = (listing_of k n ys
          (replicate m nought)).next;
    }) n ys) []) (written_is m k n ys s)
    ∙ ap (λ (p : Page). take m (cobs k (take n ys)) ++ pick p.more (visited t m (record { device = k.device; file = p.next }) n ys) [])
    (page_is m k n ys s)
    ∙ ap (λ (l : List Wide). take m (cobs k (take n ys)) ++ pick (ltb m (length (cobs k (take n ys)))) l []) (visited-pages t m (next_key k m
    (take n ys)) n ys s)

-- a listing continued at its next number visits every cob of the device exactly once, in file order
pub visits_all : (t m : ℕ) (k : Key) (n : ℕ) (ys : List Entry) → sound n ys ≡ true → 0 < m → length (cobs k (take n ys)) ≤ t
    → visited t m k n ys ≡ cobs k (take n ys)
visits_all t m k n ys s p l =
    visited-pages t m k n ys s ∙ pages-all t m k (take n ys) (both_true (leb n (length ys)) (rising (take n ys)) s).1 p l
