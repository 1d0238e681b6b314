-- What a call finds of its key, said of the whole list: the record at the place that the search gave is the one of the key, if there is one.
use Rattle.std.specs.Prelude.{◌≡◌, ℕ, ◌≤◌, ◌<◌, Bool, false, ltb, leb, length, get_or, take, Option, Some, None, Err}
use Rattle.std.proofs.Math.Path.{refl, sym, ap}
use Rattle.std.proofs.Common.{◌∙◌, zero-le, arith, length-take, length-append, length-take-le, get_or-take, ltb-true, leb-true, lt-ltb, le-ltb}
use Rattle.std.proofs.Math.Bool.{true}
use mathlib.Core.List.{List, [], ◌∷◌, ◌++◌}
use Rattle.std.proofs.Math.Seq.{get_or-append_seam}
use Rattle.std.specs.Option.{is_some}
use Rattle.lists.specs.Pick.{pick, both, both_true, both_off, clash}
use Rattle.lists.specs.Passing.{passing, nonempty}
use Rattle.lists.specs.Refusal.{refusal_by, ◌or_else◌}
use Rattle.lists.specs.declared.Refusal.TheVariants.{BadCatalogue}
use Rattle.entries.specs.declared.Wide.{Wide}
use Rattle.entries.specs.declared.Entry.{Entry}
use Rattle.entries.specs.declared.Key.{Key}
use Rattle.entries.specs.declared.Found.{Found}
use Rattle.entries.specs.Wide.{nought}
use Rattle.entries.specs.Blank.{blank}
use Rattle.entries.specs.Key.{key_of, key_lt, key_eq, rising}
use Rattle.entries.specs.Catalogue.{before, holders, after, sound, cob_of, found_by, lookup_of}
use Rattle.entries.specs.Look.{trusted_of, look_of, searched, place_of, scan_of}
use Rattle.entries.specs.Answered.{found_of}
use Rattle.entries.specs.Plans.{given, answer_of, IsPlaced}
use Rattle.entries.specs.Orders.{gt_ne, eq_refl}
use Rattle.entries.specs.Splits.{Split, new, old, split}
use Rattle.entries.specs.Searches.{past_le}

-- ---- what a lookup answers of the records of its key, in an ordered catalogue
abbrev pub held_cob : List Entry → Found
held_cob [] = found_by 11 nought
held_cob (r ∷ rs) = found_by 0 r.cob

pub found_is : (s : Bool) (xs : List Entry)
    → found_by (refusal_by ((s, 9) ∷ (nonempty xs, 11) ∷ [])) (cob_of xs) ≡ pick s (held_cob xs) (found_by 9 nought)
unfolding refusal_by ◌or_else◌
found_is true [] = refl
found_is true (r ∷ rs) = refl
found_is false xs = refl

-- what is found of the records of a key
abbrev pub held : List Entry → Option Wide
held [] = None
held (r ∷ rs) = Some r.cob

pub there-held : (xs : List Entry) → is_some (held xs) ≡ nonempty xs
there-held [] = refl
there-held (r ∷ rs) = refl

given-held : (xs : List Entry) → found_of (given (held xs)) ≡ held_cob xs
given-held [] = refl
given-held (r ∷ rs) = refl

picked : (xs : List Entry) (c : Wide) → (nonempty xs ≡ true → c ≡ cob_of xs) → pick (nonempty xs) (Some c) None ≡ held xs
picked [] c e = refl
picked (r ∷ rs) c e = ap Some (e refl)

there_picked : (t : Bool) (c : Wide) → is_some (pick t (Some c) None) ≡ t
there_picked true c = refl
there_picked false c = refl

-- ---- the record that stands where the keys below k end

passing_head : (p : Entry → Bool) (xs : List Entry) (a : Entry) (rs : List Entry) → passing p xs ≡ a ∷ rs → p a ≡ true
passing_head p [] a rs e = clash false (ap nonempty e) refl
passing_head p (x ∷ xs) a rs e = by_test (p x) refl e (passing_head p xs a rs)
  where
    by_test : (t : Bool) → p x ≡ t → pick t (x ∷ passing p xs) (passing p xs) ≡ a ∷ rs → (passing p xs ≡ a ∷ rs → p a ≡ true) → p a ≡ true
    by_test true t f i = ap p (sym (ap (λ (l : List Entry). get_or l 0 blank) f)) ∙ t
    by_test false t f i = i f

-- it is the one of the key where it has the key; past the end there is none
held_at : (k : Key) (xs : List Entry) → rising xs ≡ true
    → both (ltb (length (before k xs)) (length xs)) (key_eq (key_of (get_or xs (length (before k xs)) blank)) k) ≡ nonempty (holders k xs)
held_at k xs h = by_split (split k xs h)
  where
    at : ℕ
    at = length (before k xs)

    -- above all keys below k stands nothing, or a key above k
    next : (qs : List Entry) → after k xs ≡ qs → xs ≡ before k xs ++ qs → both (ltb at (length xs)) (key_eq (key_of (get_or xs at blank)) k) ≡ false
    next [] e p =
        ap (λ (b : Bool). both b (key_eq (key_of (get_or xs at blank)) k))
        (le-ltb at (length xs) (omega (arith, ap length p, length-append (before k xs) [])))
    next (q ∷ qs) e p =
        ap (λ (r : Entry). both (ltb at (length xs)) (key_eq (key_of r) k))
        (ap (λ (l : List Entry). get_or l at blank) p ∙ get_or-append_seam (before k xs) q qs blank)
        ∙ ap (both (ltb at (length xs))) (gt_ne (key_of q) k (passing_head (λ x. key_lt k (key_of x)) xs q qs e)) ∙ both_off (ltb at (length xs))

    by_split : Split k xs → both (ltb at (length xs)) (key_eq (key_of (get_or xs at blank)) k) ≡ nonempty (holders k xs)
    by_split (new e p) = next (after k xs) refl p ∙ sym (ap nonempty e)
    by_split (old z g e p) =
        ap (λ (b : Bool). both b (key_eq (key_of (get_or xs at blank)) k))
        (lt-ltb at (length xs) (omega (arith, ap length p, length-append (before k xs) (z ∷ after k xs))))
        ∙ ap (λ (r : Entry). key_eq (key_of r) k) (ap (λ (l : List Entry). get_or l at blank) p ∙ get_or-append_seam (before k xs) z (after k xs) blank)
        ∙ ap (λ (j : Key). key_eq j k) g ∙ eq_refl k ∙ sym (ap nonempty e)

cob_at : (k : Key) (xs : List Entry) → rising xs ≡ true → nonempty (holders k xs) ≡ true
    → (get_or xs (length (before k xs)) blank).cob ≡ cob_of (holders k xs)
cob_at k xs h f = by_split (split k xs h)
  where
    by_split : Split k xs → (get_or xs (length (before k xs)) blank).cob ≡ cob_of (holders k xs)
    by_split (new e p) = clash false (sym (ap nonempty e) ∙ f) refl
    by_split (old z g e p) =
        ap (λ (r : Entry). r.cob) (ap (λ (l : List Entry). get_or l (length (before k xs)) blank) p
        ∙ get_or-append_seam (before k xs) z (after k xs) blank)
        ∙ sym (ap cob_of e)

-- ---- the same, of the call

-- what is searched lies in the slice, and its keys rise
pub searchable : (n : ℕ) (ys : List Entry) → (trusted_of n (sound n ys) ≤ length ys) × (rising (searched n ys) ≡ true)
searchable n ys = by_test (sound n ys) refl
  where
    by_test : (t : Bool) → sound n ys ≡ t → (trusted_of n t ≤ length ys) × (rising (take (trusted_of n t) ys) ≡ true)
    by_test true e = (
      leb-true n (length ys) (both_true (leb n (length ys)) (rising (take n ys)) e).0,
      (both_true (leb n (length ys)) (rising (take n ys)) e).1,
    )
    by_test false e = (zero-le, refl)

module _ (key : Key) (n : ℕ) (ys : List Entry) where
  pub scan_n : (scan_of key n ys).n ≡ n
  unfolding look_of
  scan_n = refl

  pub scan_len : (scan_of key n ys).len ≡ length ys
  unfolding look_of
  scan_len = refl

  pub scan_sound : (scan_of key n ys).sound ≡ sound n ys
  unfolding look_of
  scan_sound = refl

  pub scan_upto : (scan_of key n ys).upto ≡ trusted_of n (sound n ys)
  unfolding look_of
  scan_upto = refl

  pub scan_searchable : ((scan_of key n ys).upto ≤ length ys) × (rising (take (scan_of key n ys).upto ys) ≡ true)
  unfolding look_of
  scan_searchable = searchable n ys

  pub scan_place : (scan_of key n ys).at ≡ place_of key n ys
  unfolding look_of
  scan_place = refl

  -- the record at the place that the search gave is one that was searched, and has the key
  abbrev tests : Bool
  tests = both (ltb (place_of key n ys) (trusted_of n (sound n ys))) (key_eq (key_of (get_or ys (place_of key n ys) blank)) key)

  found_by_lem : (scan_of key n ys).found ≡ pick tests (Some (get_or ys (place_of key n ys) blank).cob) None
  unfolding look_of
  found_by_lem = refl

  -- no more records are searched than the count says
  trusted_le : trusted_of n (sound n ys) ≤ n
  trusted_le = by_test (sound n ys)
    where
      by_test : (s : Bool) → pick s n 0 ≤ n
      by_test true = omega arith
      by_test false = omega arith

  pub scan_placed : IsPlaced (scan_of key n ys)
  scan_placed = (
    omega (arith, scan_place, scan_n, within, trusted_le),
    λ f. omega (
      arith,
      scan_place,
      scan_n,
      trusted_le,
      ltb-true (place_of key n ys) (trusted_of n (sound n ys)) (both_true (ltb (place_of key n ys) (trusted_of n (sound n ys)))
          (key_eq (key_of (get_or ys (place_of key n ys) blank)) key) (sym (there_picked tests (get_or ys (place_of key n ys) blank).cob)
          ∙ sym (ap is_some found_by_lem) ∙ f)).0,
    ),
  )
    where
      within : place_of key n ys ≤ trusted_of n (sound n ys)
      within = omega (arith, past_le key false (searched n ys), length-take (trusted_of n (sound n ys)) ys)

  -- in a sound catalogue
  module _ (s : sound n ys ≡ true) where
    all : trusted_of n (sound n ys) ≡ n
    all = ap (λ (b : Bool). pick b n 0) s

    pub searched_is : searched n ys ≡ take n ys
    searched_is = ap (λ (m : ℕ). take m ys) all

    fits : n ≤ length ys
    fits = leb-true n (length ys) (both_true (leb n (length ys)) (rising (take n ys)) s).0

    rises : rising (take n ys) ≡ true
    rises = (both_true (leb n (length ys)) (rising (take n ys)) s).1

    abbrev place : ℕ
    place = length (before key (take n ys))

    place_is : place_of key n ys ≡ place
    place_is = ap (λ (l : List Entry). length (before key l)) searched_is

    -- within the count, the slice has the records of its first n
    here : place < n → get_or ys place blank ≡ get_or (take n ys) place blank
    here l = sym (get_or-take n ys place blank l)

    pub scan_at : (scan_of key n ys).at ≡ length (before key (take n ys))
    scan_at = scan_place ∙ place_is

    tests_are : tests ≡ nonempty (holders key (take n ys))
    tests_are =
        ap (λ (p : ℕ). both (ltb p (trusted_of n (sound n ys))) (key_eq (key_of (get_or ys p blank)) key)) place_is
        ∙ ap (λ (m : ℕ). both (ltb place m) (key_eq (key_of (get_or ys place blank)) key)) all
        ∙ by_test (ltb place n) refl
        ∙ ap (λ (m : ℕ). both (ltb place m) (key_eq (key_of (get_or (take n ys) place blank)) key)) (sym (length-take-le n ys fits))
        ∙ held_at key (take n ys) rises
      where
        by_test : (t : Bool) → ltb place n ≡ t
            → both t (key_eq (key_of (get_or ys place blank)) key) ≡ both t (key_eq (key_of (get_or (take n ys) place blank)) key)
        by_test true e = ap (λ (r : Entry). key_eq (key_of r) key) (here (ltb-true place n e))
        by_test false e = refl

    cob_is : nonempty (holders key (take n ys)) ≡ true → (get_or ys (place_of key n ys) blank).cob ≡ cob_of (holders key (take n ys))
    cob_is f =
        ap (λ (p : ℕ). (get_or ys p blank).cob) place_is
        ∙ ap (λ (r : Entry). r.cob) (here (omega (
          arith,
          ltb-true (place_of key n ys) (trusted_of n (sound n ys)) (both_true (ltb (place_of key n ys)
              (trusted_of n (sound n ys))) (key_eq (key_of (get_or ys (place_of key n ys) blank)) key) (tests_are ∙ f)).0,
          place_is,
          all,
        )))
        ∙ cob_at key (take n ys) rises f

    pub scan_found : (scan_of key n ys).found ≡ held (holders key (take n ys))
    scan_found =
        found_by_lem ∙ ap (λ (t : Bool). pick t (Some (get_or ys (place_of key n ys) blank).cob) None) tests_are
        ∙ picked (holders key (take n ys)) (get_or ys (place_of key n ys) blank).cob cob_is

  -- what a lookup makes of it is what the documents say
  pub looked_up : found_of (answer_of (scan_of key n ys)) ≡ lookup_of key n ys
  unfolding answer_of look_of
  looked_up =
      by_test (sound n ys) (scan_of key n ys).found scan_found refl ∙ sym (found_is (sound n ys) (holders key (take n ys)))
    where
      by_test : (s : Bool) (o : Option Wide) → (sound n ys ≡ true → o ≡ held (holders key (take n ys))) → sound n ys ≡ s
          → found_of (pick s (given o) (Err BadCatalogue)) ≡ pick s (held_cob (holders key (take n ys))) (found_by 9 nought)
      by_test true o e s = ap (λ (w : Option Wide). found_of (given w)) (e s) ∙ given-held (holders key (take n ys))
      by_test false o e s = refl
