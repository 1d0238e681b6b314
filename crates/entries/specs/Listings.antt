-- What a listing answers and leaves, said of the whole list.
use Rattle.std.specs.Prelude.{◌≡◌, ℕ, zero, suc, ◌+◌, ◌-◌, ◌≤◌, ◌<◌, Bool, ltb, leb, get_or, set, take, drop, replicate, Option, Some, None, Result, Ok, Err, ⊤}
use Rattle.std.proofs.Math.Path.{refl, sym, ap, subst}
use Rattle.std.proofs.Common.{◌∙◌, arith, length-append, take-append-drop, length-take-le, take-suc, drop-cons, take_all}
use Rattle.std.proofs.Common.{get_or-append-add, get_or-take, ltb-true, ltb-false, lt-ltb, le-ltb}
use Rattle.std.proofs.Math.Bool.{true, false}
use mathlib.Core.List.{List, [], ◌∷◌, ◌++◌, map, append_assoc}
use Rattle.std.proofs.Math.ListN.{length, length-map, get_or-map}
use Rattle.std.proofs.lemmas.List.{set_at, take-append-le}
use Rattle.std.proofs.Math.Seq.{drop-append_seam, take-append_seam}
use Rattle.lists.specs.Pick.{pick, both_true}
use Rattle.lists.specs.Passing.{over}
use Rattle.lists.specs.Refusal.{refusal_by, ◌or_else◌, grant}
use Rattle.lists.specs.declared.Refusal.{Refusal}
use Rattle.lists.specs.declared.Refusal.TheVariants.{BadCatalogue}
use Rattle.entries.specs.declared.Wide.{Wide}
use Rattle.entries.specs.declared.Entry.{Entry}
use Rattle.entries.specs.declared.Key.{Key}
use Rattle.entries.specs.declared.Show.{Show}
use Rattle.entries.specs.declared.Listed.{Listed}
use Rattle.entries.specs.declared.Page.{Page}
use Rattle.entries.specs.Wide.{nought}
use Rattle.entries.specs.Blank.{blank}
use Rattle.entries.specs.Key.{rising}
use Rattle.entries.specs.Span.{past_count}
use Rattle.entries.specs.Look.{searched, scan_of}
use Rattle.entries.specs.Listed.{listed}
use Rattle.entries.specs.Answered.{page_of}
use Rattle.entries.specs.Plans.{shown_by, shown_of, end_of, window_of, record_at, report_of}
use Rattle.entries.specs.Catalogue.{before, onward, sound, cobs, files, listing_tests, page_by, listing_of, listed_out}
use Rattle.entries.specs.Splits.{Within, onward-within}
use Rattle.entries.specs.Devices.{past_whole}
use Rattle.entries.specs.Maps.{map-take}
use Rattle.entries.specs.Looks.{searched_is, scan_sound, scan_place, scan_at}

abbrev record_cob : Entry → Wide
record_cob r = r.cob

-- ---- the loop over the cobs, said with lists
pub listed_turn : (m : ℕ) (rs : List Entry) (os zs : List Wide) → m < length rs → m < length os
    → zs ≡ take m (map record_cob rs) ++ drop m os → set zs m (get_or rs m blank).cob ≡ take (suc m) (map record_cob rs) ++ drop (suc m) os
listed_turn m rs os zs h l e =
    ap (λ (t : List Wide). set t m c) (e ∙ ap (λ (t : List Wide). front ++ t) (drop-cons os m nought l))
    ∙ set_at front (get_or os m nought) (drop (suc m) os) c m (length-take-le m all (omega (arith, length-map rs record_cob)))
    ∙ sym (ap (λ (t : List Wide). t ++ drop (suc m) os) (take-suc all m nought (omega (arith, length-map rs record_cob))
    ∙ ap (λ (w : Wide). front ++ (w ∷ [])) (get_or-map record_cob rs m blank)) ∙ append_assoc front (c ∷ []) (drop (suc m) os))
  where
    all : List Wide
    all = map record_cob rs

    front : List Wide
    front = take m all

    c : Wide
    c = (get_or rs m blank).cob

pub listed_none : (rs : List Entry) (os : List Wide) → os ≡ take 0 (map record_cob rs) ++ drop 0 os
listed_none rs os = refl

pub listed_all : (rs : List Entry) (os : List Wide) → take (length rs) (map record_cob rs) ++ drop (length rs) os ≡ listed rs os
listed_all rs os =
    ap (λ (t : List Wide). t ++ drop (length rs) os) (take_all (length rs) (map record_cob rs) (omega (arith, length-map rs record_cob)))

-- ---- where the records stand that are listed
record Stands (k : Key) (n : ℕ) (ys : List Entry) : Type 0 where
  beyond : List Entry
  there : ys ≡ before k (take n ys) ++ (onward k (take n ys) ++ beyond)

stands : (k : Key) (n : ℕ) (ys : List Entry) → sound n ys ≡ true → Stands k n ys
stands k n ys s =
    record {
      beyond = w.rest ++ drop n ys;
      there = sym (take-append-drop n ys) ∙ ap (λ (t : List Entry). t ++ drop n ys) w.parts ∙ append_assoc
          (before k (take n ys)) (onward k (take n ys) ++ w.rest) (drop n ys) ∙ ap (λ (t : List Entry). before k (take n ys) ++ t) (append_assoc
          (onward k (take n ys)) w.rest (drop n ys));
    }
  where
    w : Within (before k (take n ys)) (onward k (take n ys)) (take n ys)
    w = onward-within k (take n ys) (both_true (leb n (length ys)) (rising (take n ys)) s).1

-- ---- what a listing shows: nothing where the catalogue is bad, else a part of the records or all of them

data View (at total room : ℕ) (s : Bool) (w : Result Show Refusal) : Type 0 where
  bad : s ≡ false → w ≡ Err BadCatalogue → View at total room s w
  part : s ≡ true → room < total → w ≡ Ok (record { from = at; count = room; after = Some (at + room) }) → View at total room s w
  all : s ≡ true → total ≤ room → w ≡ Ok (record { from = at; count = total; after = None }) → View at total room s w

view_by : (at total end room : ℕ) (s : Bool) → (s ≡ true → end ≡ at + total) → View at total room s (shown_by at end room s)
view_by at total end room false h = bad refl refl
view_by at total end room true h = by_test (ltb room (end - at)) refl
  where
    by_test : (t : Bool) → ltb room (end - at) ≡ t
        → View at total room true (pick t
        (Ok (record { from = at; count = room; after = Some (at + room) }))
        (Ok (record { from = at; count = end - at; after = None })))
    by_test true e = part refl (omega (arith, ltb-true room (end - at) e, h refl)) refl
    by_test false e =
        all refl (omega (arith, ltb-false room (end - at) e, h refl))
        (let c : end - at ≡ total = omega (arith, h refl) in
        ap {B = Result Show Refusal} (λ (j : ℕ). Ok (record { from = at; count = j; after = None })) c)

-- what a call makes of it
abbrev pub finished : List Entry → Result Show Refusal → Result Listed Refusal
finished ys (Ok w) = Ok (report_of w.count (record_at ys w.after))
finished ys (Err e) = Err e

-- what it leaves of its output
abbrev pub output : Result Show Refusal → List Entry → List Wide → List Wide
output (Ok w) ys os = listed (take w.count (drop w.from ys)) os
output (Err e) ys os = replicate (length os) nought

-- what is shown lies within len records and the room of the output, and so does the first record that is left out
abbrev pub IsWithin : Show → ℕ → ℕ → Type 0
IsWithin w len room = (w.from + w.count ≤ len) × (w.count ≤ room) × ((i : ℕ) → w.after ≡ Some i → i < len)

abbrev pub AnyWithin : Result Show Refusal → ℕ → ℕ → Type 0
AnyWithin (Ok w) len room = IsWithin w len room
AnyWithin (Err e) len room = ⊤

pub get_d_end : (ys : List Entry) → get_or ys (length ys) blank ≡ blank
get_d_end [] = refl
get_d_end (y ∷ ys) = get_d_end ys

get_d_over : (ws : List Wide) (i : ℕ) → length ws ≤ i → get_or ws i nought ≡ nought
get_d_over [] i l = refl
get_d_over (w ∷ ws) zero l = absurd (omega (arith, l))
get_d_over (w ∷ ws) (suc i) l = get_d_over ws i (omega (arith, l))

module _ (k : Key) (n : ℕ) (ys : List Entry) where
  -- the records that are listed, how many are before them, and how many they are
  abbrev ls : List Entry
  ls = onward k (take n ys)

  abbrev at : ℕ
  at = length (before k (take n ys))

  abbrev total : ℕ
  total = length (onward k (take n ys))

  end_is : sound n ys ≡ true → end_of k n ys ≡ at + total
  end_is s = ap (past_count k true) (searched_is k n ys s) ∙ past_whole k (take n ys)

  -- the search for the end goes at least as far as that for the place
  pub place-before-end : (scan_of k n ys).at ≤ end_of k n ys
  place-before-end = omega (arith, scan_place k n ys, past_whole k (searched n ys))

  view : (room : ℕ) → View at total room (sound n ys) (window_of k n room ys)
  unfolding shown_of
  view room = subst (View at total room (sound n ys)) (sym shown_is) (view_by at total (end_of k n ys) room (sound n ys) end_is)
    where
      placed_at : (s : Bool) → (s ≡ true → (scan_of k n ys).at ≡ at)
          → shown_by (scan_of k n ys).at (end_of k n ys) room s ≡ shown_by at (end_of k n ys) room s
      placed_at true h = ap (λ (j : ℕ). shown_by j (end_of k n ys) room true) (h refl)
      placed_at false h = refl

      shown_is : window_of k n room ys ≡ shown_by at (end_of k n ys) room (sound n ys)
      shown_is = cc (scan_sound k n ys) ∙ placed_at (sound n ys) (scan_at k n ys)

  room_for : sound n ys ≡ true → at + total ≤ length ys
  room_for s =
      omega (
        arith,
        ap length (stands k n ys s).there,
        length-append (before k (take n ys)) (ls ++ (stands k n ys s).beyond),
        length-append ls (stands k n ys s).beyond,
      )

  -- ---- the run lies within the slice and the output

  pub listing_inside : (room : ℕ) → AnyWithin (window_of k n room ys) (length ys) room
  listing_inside room = by_view (window_of k n room ys) (view room)
    where
      by_view : (w : Result Show Refusal) → View at total room (sound n ys) w → AnyWithin w (length ys) room
      by_view w (bad s e) = subst (λ (v : Result Show Refusal). AnyWithin v (length ys) room) (sym e) tt
      by_view w (part s l e) =
          subst (λ (v : Result Show Refusal). AnyWithin v (length ys) room) (sym e) (
            omega (arith, room_for s),
            omega arith,
            λ i f. let q : at + room ≡ i = cc in omega (arith, room_for s),
          )
      by_view w (all s l e) =
          subst (λ (v : Result Show Refusal). AnyWithin v (length ys) room) (sym e)
          (omega (arith, room_for s), omega arith, λ i f. absurd (none_is_none f))
        where
          none_is_none : {i : ℕ} → ◌≡◌ {A = Option ℕ} None (Some i) → ⊥
          none_is_none f = cc

  -- ---- the answer

  -- the record after the first j of those that are listed
  after_them : (j : ℕ) → sound n ys ≡ true → j < total → get_or ys (at + j) blank ≡ get_or ls j blank
  after_them j s l =
      ap (λ (t : List Entry). get_or t (at + j) blank) (stands k n ys s).there
      ∙ get_or-append-add (before k (take n ys)) (ls ++ (stands k n ys s).beyond) j blank
      ∙ sym (get_or-take total (ls ++ (stands k n ys s).beyond) j blank l)
      ∙ ap (λ (t : List Entry). get_or t j blank) (take-append_seam ls (stands k n ys s).beyond)

  -- where the call is accepted, and where it is not
  good_page : (room count : ℕ) (more : Bool) (next : Wide) → sound n ys ≡ true → count ≡ length (take room (cobs k (take n ys)))
      → more ≡ ltb room (length (cobs k (take n ys))) → next ≡ get_or (files ls) room nought
      → ◌≡◌ {A = Page} (record { refusal = 0; count = count; more = more; next = next })
      (page_by (refusal_by (listing_tests n ys)) (length (take room (cobs k (take n ys)))) (ltb room (length (cobs k (take n ys))))
      (get_or (files ls) room nought))
  unfolding refusal_by ◌or_else◌
  good_page room count more next s e₁ e₂ e₃ =
      cc (e₁, e₂, e₃)
      ∙ sym (ap (λ (b : Bool). page_by (refusal_by ((b, 9) ∷ [])) (length (take room (cobs k (take n ys)))) (ltb room (length (cobs k
      (take n ys)))) (get_or (files ls) room nought)) s)

  pub listing_report : (os : List Wide) → page_of (finished ys (window_of k n (length os) ys)) ≡ listing_of k n ys os
  unfolding refusal_by ◌or_else◌
  listing_report os = by_view (window_of k n (length os) ys) (view (length os))
    where
      size : length (cobs k (take n ys)) ≡ total
      size = length-map ls record_cob

      by_view : (w : Result Show Refusal) → View at total (length os) (sound n ys) w → page_of (finished ys w) ≡ listing_of k n ys os
      by_view w (bad s e) =
          ap (λ (v : Result Show Refusal). page_of (finished ys v)) e
          ∙ sym (ap (λ (b : Bool). page_by (refusal_by ((b, 9) ∷ [])) (length (take (length os) (cobs k (take n ys)))) (ltb (length os) (length (cobs k
          (take n ys)))) (get_or (files ls) (length os) nought)) s)
      by_view w (part s l e) =
          ap (λ (v : Result Show Refusal). page_of (finished ys v)) e
          ∙ good_page (length os) (length os) true (get_or ys (at + length os) blank).file s
          (sym (length-take-le (length os) (cobs k (take n ys)) (omega (arith, size))))
          (sym (lt-ltb (length os) (length (cobs k (take n ys))) (omega (arith, size))))
          (ap (λ (r : Entry). r.file) (after_them (length os) s l) ∙ sym (get_or-map (λ (r : Entry). r.file) ls (length os) blank))
      by_view w (all s l e) =
          ap (λ (v : Result Show Refusal). page_of (finished ys v)) e
          ∙ good_page (length os) total false nought s
          (sym (ap length (take_all (length os) (cobs k (take n ys)) (omega (arith, size))) ∙ size))
          (sym (le-ltb (length os) (length (cobs k (take n ys))) (omega (arith, size))))
          (sym (get_d_over (files ls) (length os) (omega (arith, length-map ls (λ (r : Entry). r.file)))))

  -- ---- the output

  good-output : (c : ℕ) (os : List Wide) → sound n ys ≡ true → c ≤ total → take c (cobs k (take n ys)) ≡ take (length os) (cobs k (take n ys))
      → listed (take c (drop at ys)) os ≡ over (take (length os) (cobs k (take n ys))) os
  good-output c os s l e =
      ap (λ (t : List Entry). listed (take c t) os) (ap (drop at) (stands k n ys s).there
      ∙ drop-append_seam (before k (take n ys)) (ls ++ (stands k n ys s).beyond))
      ∙ ap (λ (t : List Entry). listed t os) (take-append-le c ls (stands k n ys s).beyond l)
      ∙ ap (λ (j : ℕ). map record_cob (take c ls) ++ drop j os) (length-take-le c ls l)
      ∙ ap (λ (t : List Wide). t ++ drop c os) (map-take record_cob c ls ∙ e)
      ∙ ap (λ (j : ℕ). take (length os) (cobs k (take n ys)) ++ drop j os) size
    where
      size : c ≡ length (take (length os) (cobs k (take n ys)))
      size = sym (sym (ap length e) ∙ length-take-le c (cobs k (take n ys)) (omega (arith, length-map ls record_cob)))

  pub listing_output : (os : List Wide) → output (window_of k n (length os) ys) ys os ≡ listed_out k n ys os
  unfolding refusal_by ◌or_else◌
  listing_output os = by_view (window_of k n (length os) ys) (view (length os))
    where
      zs : List Wide
      zs = over (take (length os) (cobs k (take n ys))) os

      granted : (b : Bool) → sound n ys ≡ b → listed_out k n ys os ≡ grant (refusal_by ((b, 9) ∷ [])) zs (replicate (length os) nought)
      granted b s = ap (λ (t : Bool). grant (refusal_by ((t, 9) ∷ [])) zs (replicate (length os) nought)) s

      by_view : (w : Result Show Refusal) → View at total (length os) (sound n ys) w → output w ys os ≡ listed_out k n ys os
      by_view w (bad s e) =
          ap (λ (v : Result Show Refusal). output v ys os) e ∙ sym (granted false s)
      by_view w (part s l e) =
          ap (λ (v : Result Show Refusal). output v ys os) e ∙ good-output (length os) os s (omega arith) refl ∙ sym (granted true s)
      by_view w (all s l e) =
          ap (λ (v : Result Show Refusal). output v ys os) e
          ∙ good-output total os s (omega arith)
          (take_all total (cobs k (take n ys)) (omega (arith, length-map ls record_cob)) ∙ sym (take_all (length os) (cobs k (take n ys)) (omega (
            arith,
            length-map ls record_cob,
          ))))
          ∙ sym (granted true s)
