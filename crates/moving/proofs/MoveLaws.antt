-- A move: when it is accepted, what the new pool shows and holds, there and back, and what it does not depend on.
use Rattle.std.specs.Prelude.{◌≡◌, true, false, List, [], ◌∷◌, ℕ, ◌+◌, ◌-◌, ◌<◌, eqb, leb, length}
use Rattle.std.proofs.Math.Path.{refl, sym, ap, subst, subst⁻¹}
use Rattle.std.proofs.Common.{◌∙◌, ⊎_elim, arith, le-leb, leb-true, eqb-true, eq-eqb}
use Rattle.lists.specs.Pick.{either_way}
use Rattle.lists.specs.Tabulate.{at, tabulate, zeros, tabulated, tabulate_ext}
use Rattle.lists.specs.Refusal.{refusal_by, grant_yes, grant_no, refusal_lowest, refusal_none, LowestThatApplies}
use Rattle.numbers.specs.declared.Layout.{Layout}
use Rattle.numbers.specs.Layouts.{Valid, all_groups, contents, all_contents, capacity, image_length}
use Rattle.numbers.specs.Refused.{validb, valid_of, valid_true}
use Rattle.numbers.specs.Editions.{other_edition, other_valid, other-other, other-capacity, other_image}
use Rattle.place.specs.Bytes.{group_of, unit_in, byte_in}
use Rattle.place.specs.ByteLaws.{group_lt, unit_lt, byte_lt}
use Rattle.parity.specs.Content.{content_data}
use Rattle.homes.specs.declared.Record.{Record}
use Rattle.homes.specs.RecordLaws.{record_good_lem, good-true}
use Rattle.homes.specs.Missing.{missing}
use Rattle.pool.specs.Contents.{stored, file_byte, home_spot}
use Rattle.pool.specs.Refusals.{range_tests, range_refusal}
use Rattle.pool.specs.Reading.{read_out}
use Rattle.pool.specs.Asked.{Sound, sound-passes, range_asked}
use Rattle.pool.specs.Holds.{Holds, file_shown, content_rebuilds, home-spot-lt}
use Rattle.pool.specs.Blind.{Agree}
use Rattle.pool.proofs.BlindLaws.{content_blind}
use Rattle.pool.specs.Unread.{Alike, grant_same}
use Rattle.pool.proofs.UnreadLaws.{bytes_unread, good_same}
use Rattle.moving.specs.Fresh.{unfailed, fresh_image, Clean}
use Rattle.moving.specs.Moving.{shown_file, move_tests, move_refusal, move_image}
use Rattle.moving.specs.FreshLaws.{unfailed-sound, shown-length, shown-at, fresh_length, fresh_shown, fresh_holds, fresh_file, fresh_clean, clean_fresh}

module _ (y : Layout) (R : Record) (len room : ℕ) where
  pub move-lowest : LowestThatApplies (move_tests y R len room) (move_refusal y R len room)
  unfolding move_refusal
  move-lowest = refusal_lowest 1 (move_tests y R len room) (omega arith) refl

  pub move-asked : move_refusal y R len room ≡ 0 → Sound y R len × (room ≡ image_length y)
  move-asked z =
      let p = move-lowest.none z in (
        record {
          valid = valid_of y p.0;
          len_is = eqb-true len (image_length y) p.1.0;
          good = record_good_lem y R p.1.1.1.0;
          within = leb-true R.waiting (all_contents y) p.1.1.1.1.0;
        },
        eqb-true room (image_length y) p.1.1.0,
      )

  pub move_granted : Sound y R len → room ≡ image_length y → move_refusal y R len room ≡ 0
  unfolding move_refusal
  move_granted s e =
      refusal_none (move_tests y R len room)
      (valid_true y s.valid, (eq-eqb len (image_length y) s.len_is, (eq-eqb room (image_length y) e, (good-true y R s.good, (le-leb R.waiting (all_contents y) s.within, tt)))))

pub move_accepted : (y : Layout) (R : Record) (img : List ℕ) (room : ℕ) → move_refusal y R (length img) room ≡ 0
    → move_image y R img room ≡ fresh_image (other_edition y) (shown_file y R img)
unfolding move_image
move_accepted y R img room z = grant_yes (move_refusal y R (length img) room) _ (zeros room) z

module _ (y : Layout) (R : Record) (img : List ℕ) (room : ℕ) (z : move_refusal y R (length img) room ≡ 0) (entries : List ℕ) where
  asked : Sound y R (length img)
  asked = (move-asked y R (length img) room z).0

  v' : Valid (other_edition y)
  v' = other_valid y asked.valid

  abbrev new : List ℕ
  new = move_image y R img room

  pub new-length : length new ≡ image_length (other_edition y)
  new-length = ap length (move_accepted y R img room z) ∙ fresh_length (other_edition y) v' (shown_file y R img)

  -- with an empty list nothing but a call's own tests refuses it
  pub new-sound : Sound (other_edition y) (unfailed entries) (length new)
  new-sound = unfailed-sound (other_edition y) v' entries (length new) new-length

  pub new_clean : Clean (other_edition y) new
  new_clean = subst⁻¹ (Clean (other_edition y)) (move_accepted y R img room z) (fresh_clean (other_edition y) v' (shown_file y R img))

  -- byte by byte
  pub bytes_agree : (x : ℕ) → x < capacity y → file_byte (other_edition y) (unfailed entries) new x ≡ file_byte y R img x
  bytes_agree x h =
      ap (λ (i : List ℕ). file_byte (other_edition y) (unfailed entries) i x) (move_accepted y R img room z)
      ∙ fresh_shown (other_edition y) v' (shown_file y R img) entries x (subst⁻¹ (λ (m : ℕ). x < m) (other-capacity y) h)
      ∙ shown-at y asked.valid R img x h

  pub numbers_agree : (offset size : ℕ) → range_refusal (other_edition y) (unfailed entries) (length new) offset size ≡ range_refusal y R (length img) offset size
  unfolding range_refusal
  numbers_agree offset size =
      sound-passes (other_edition y) (unfailed entries) (length new) new-sound (range_tests (other_edition y) offset size)
      ∙ (λ i. refusal_by ((leb offset (other-capacity y i), 4) ∷ (leb size (other-capacity y i - offset), 4) ∷ []))
      ∙ sym (sound-passes y R (length img) asked (range_tests y offset size))

  -- "Reads agree over the whole capacity", and every other read is refused by both
  pub reads_agree : (offset size : ℕ) → read_out (other_edition y) (unfailed entries) new offset size ≡ read_out y R img offset size
  unfolding read_out
  reads_agree offset size =
      grant_same (range_refusal (other_edition y) (unfailed entries) (length new) offset size) (range_refusal y R (length img) offset size) _ _ _ (numbers_agree offset size)
      (λ a.
      let b = (range_asked y R (length img) offset size (sym (numbers_agree offset size) ∙ a)).1 in
      tabulate_ext 0 size _ _ (λ i h. bytes_agree (offset + i) (omega arith)))

  -- ---- the file

  new_holds : (file : List ℕ) → shown_file y R img ≡ file → ((x : ℕ) → x < length file → at file x < 256) → Holds (other_edition y) (unfailed entries) new file
  new_holds file same bytes =
      subst⁻¹ (λ (i : List ℕ). Holds (other_edition y) (unfailed entries) i file) (move_accepted y R img room z ∙ ap (fresh_image (other_edition y)) same)
      (fresh_holds (other_edition y) v' file entries (ap length (sym same) ∙ shown-length y asked.valid R img ∙ sym (other-capacity y)) bytes)

  -- the new pool holds the file that the old one holds
  pub move_holds : (file : List ℕ) → Holds y R img file → Holds (other_edition y) (unfailed entries) new file
  unfolding shown_file
  move_holds file k =
      new_holds file (sym (tabulated (capacity y) (file_byte y R img) file 0 k.file_length (λ x h. sym (file_shown y R img file asked.valid asked.good k x h))))
      k.file_bytes

  -- of any old image of bytes it holds the file that reads of the old one show
  pub move_holds_shown : ((x : ℕ) → x < length img → at img x < 256) → Holds (other_edition y) (unfailed entries) new (shown_file y R img)
  unfolding stored file_byte
  move_holds_shown bytes =
      new_holds (shown_file y R img) refl (λ x h.
      let hx : x < capacity y = subst (λ (m : ℕ). x < m) (shown-length y asked.valid R img) h in
      subst⁻¹ (λ (b : ℕ). b < 256) (shown-at y asked.valid R img x hx) (small x hx))
    where
      kept : (g o c : ℕ) → g < all_groups y → o < y.u → c < contents y → stored y R img g o c < 256
      kept g o c hg ho hc =
          bytes (home_spot y R g o c) (subst⁻¹ (λ (m : ℕ). home_spot y R g o c < m) asked.len_is (home-spot-lt y R asked.valid asked.good g o c hg ho hc))

      small : (x : ℕ) → x < capacity y → file_byte y R img x < 256
      small x h =
          let v = asked.valid in
          let g = group_of y x in
          let o = byte_in y x in
          let c = unit_in y x in
          let hg = group_lt y v x h in
          let ho = byte_lt y v x in
          let hc = unit_lt y v x in
          let hc' : unit_in y x < contents y = omega (arith, hc) in
          let r = content_rebuilds y R img v asked.good g o (λ c b. kept g o c hg ho b) in
          ⊎_elim
          (λ (m : missing y R g c ≡ true). subst⁻¹ (λ (b : ℕ). b < 256) (r.filled c hc' m ∙ content_data y.n r.from c hc) (r.bytes c hc))
          (λ (m : missing y R g c ≡ false). subst⁻¹ (λ (b : ℕ). b < 256) (r.kept c hc' m) (kept g o c hg ho hc'))
          (either_way (missing y R g c))

module _ (y : Layout) (v : Valid y) (img : List ℕ) (k : Clean y img) (entries : List ℕ) (room : ℕ) (same : room ≡ image_length y) where
  pub clean_accepted : move_refusal y (unfailed entries) (length img) room ≡ 0
  clean_accepted = move_granted y (unfailed entries) (length img) room (unfailed-sound y v entries (length img) k.len_is) same

  abbrev there : List ℕ
  there = move_image y (unfailed entries) img room

  module _ (entries' : List ℕ) (room' : ℕ) (same' : room' ≡ image_length y) where
    pub back_accepted : move_refusal (other_edition y) (unfailed entries') (length there) room' ≡ 0
    back_accepted =
        move_granted (other_edition y) (unfailed entries') (length there) room' (new-sound y (unfailed entries) img room clean_accepted entries') (same' ∙ sym (other_image y))

    pub there_and_back : move_image (other_edition y) (unfailed entries') there room' ≡ img
    there_and_back =
        move_accepted (other_edition y) (unfailed entries') there room' back_accepted
        ∙ (λ i. fresh_image (other-other y v i) (shown-there i))
        ∙ sym (clean_fresh y v entries img k)
      where
        shown-there : shown_file (other_edition y) (unfailed entries') there ≡ shown_file y (unfailed entries) img
        shown-there =
            ap (shown_file (other_edition y) (unfailed entries')) (move_accepted y (unfailed entries) img room clean_accepted)
            ∙ fresh_file (other_edition y) (other_valid y v) (shown_file y (unfailed entries) img) entries' (shown-length y v (unfailed entries) img ∙ sym (other-capacity y))

-- a failed target's bytes, and an unused spare's
module _ (y : Layout) (R : Record) (img img' : List ℕ) (a : Agree y R img img') (room : ℕ) where
  pub move-number_blind : move_refusal y R (length img) room ≡ move_refusal y R (length img') room
  move-number_blind = ap (λ (n : ℕ). move_refusal y R n room) (sym a.same_length)

  pub move_blind : move_image y R img room ≡ move_image y R img' room
  unfolding move_image shown_file file_byte
  move_blind =
      grant_same (move_refusal y R (length img) room) (move_refusal y R (length img') room) _ _ (zeros room) move-number_blind
      (λ z.
      let s = (move-asked y R (length img) room z).0 in
      ap (fresh_image (other_edition y))
      (tabulate_ext 0 (capacity y) (file_byte y R img) (file_byte y R img') (λ x h.
      let hc = unit_lt y s.valid x in
      content_blind y R img img' a s (group_of y x) (byte_in y x) (unit_in y x) (group_lt y s.valid x h) (byte_lt y s.valid x) (omega (arith, hc)))))

-- the record's entries from k on
module _ (y : Layout) (R R' : Record) (alike : Alike R R') (room : ℕ) where
  pub move-number_unread : (len : ℕ) → move_refusal y R len room ≡ move_refusal y R' len room
  unfolding move_refusal
  move-number_unread len =
      λ i.
      refusal_by
      ((validb y, 1) ∷ (eqb len (image_length y), 2) ∷ (eqb room (image_length y), 2) ∷ (good_same y R R' alike i, 3)
      ∷ (leb (alike.same_waiting i) (all_contents y), 3) ∷ [])

  pub move_unread : (img : List ℕ) → move_image y R img room ≡ move_image y R' img room
  unfolding move_image shown_file file_byte
  move_unread img =
      grant_same (move_refusal y R (length img) room) (move_refusal y R' (length img) room) _ _ (zeros room) (move-number_unread (length img))
      (λ z. let same = bytes_unread y R R' alike (move-asked y R (length img) room z).0.good.mended img in
      λ i. fresh_image (other_edition y) (tabulate (capacity y) (λ x. same i (group_of y x) (byte_in y x) (unit_in y x))))
