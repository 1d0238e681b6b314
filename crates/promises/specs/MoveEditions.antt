-- Document 02, order 9: a pool moved between editions, and back. "Given an old image and a second lent image, write the same file in the other edition, all N,
-- K, P, U, T and cookie kept." "An image lent to be filled, here or in order 9, is outside demand 3's runs" (order 1): the move is no event of a run (`Runs`).
-- Of the old image it changes nothing, since that is only lent to be read; and from a pool that a run has reached a run may go on in the new one, from an
-- empty list (`moved_calls_right`).
use Rattle.std.specs.Prelude.{◌≡◌, refl, Bool, ℕ, ◌-◌, ◌*◌, ◌≤◌, ◌<◌, eqb, leb, length}
use Rattle.std.proofs.Math.Path.{sym, ap, subst⁻¹}
use Rattle.std.proofs.Common.{◌∙◌, subst, arith, le-leb}
use mathlib.Core.List.{List, [], ◌∷◌}
use Rattle.lists.specs.Tabulate.{at, zeros}
use Rattle.lists.specs.Refusal.{LowestThatApplies, refusal_by, refusal_none}
use Rattle.numbers.specs.declared.Layout.{Layout}
use Rattle.numbers.specs.Layouts.{Valid, all_groups, contents, all_contents, capacity, image_length}
use Rattle.numbers.specs.Refused.{validb}
use Rattle.numbers.specs.Editions.{other_edition, other_valid, other-groups, other_image}
use Rattle.place.specs.Bytes.{spot, unit_here}
use Rattle.homes.specs.declared.Record.{Record}
use Rattle.homes.specs.Records.{record_good}
use Rattle.homes.specs.Missing.{home, missing}
use Rattle.pool.specs.Contents.{stored, content_byte, file_byte}
use Rattle.pool.specs.CountLaws.{unfailed_clear}
use Rattle.pool.specs.Refusals.{range_tests, range_refusal}
use Rattle.pool.specs.Files.{encoded}
use Rattle.pool.specs.Holds.{Holds}
use Rattle.pool.specs.Calls.{Reads}
use Rattle.pool.specs.Asked.{Sound, sound-passes}
use Rattle.pool.specs.Elsewhere.{AgreeElsewhere, agree_of}
use Rattle.pool.specs.Unread.{Alike}
use Rattle.moving.specs.Fresh.{unfailed, fresh_image, Clean}
use Rattle.moving.specs.Moving.{shown_file, move_refusal, move_image, Moves}
use Rattle.moving.specs.FreshLaws as F
use Rattle.moving.specs.MoveLaws as M
use Rattle.moving.proofs.MoveLaws as MProofs
use Rattle.promises.specs.Tight.{same}
use Rattle.promises.specs.Counts.{recounted}
use Rattle.promises.specs.Runs.{Event, State, start, run, laid_on}
use Rattle.promises.specs.RunLaws.{Inside, inside-sound, laid}
use Rattle.promises.specs.Demand3.{Right, right_from}
use Rattle.promises.specs.Calls.{Reaches, OutcomesRight, reached_inside, calls_right_from}

-- ---- the call, of any outcome that its promise allows: `room` is the length of the new image, n the number answered

module _ (y : Layout) (R : Record) (img : List ℕ) (room n : ℕ) (new : List ℕ) (p : Moves y R img room n new) where
  -- "The new image has length rule 2 as well"
  abbrev move_table : List (Bool × ℕ)
  move_table =
      (validb y, 1) ∷ (eqb (length img) (image_length y), 2) ∷ (eqb room (image_length y), 2) ∷ (record_good y R, 3)
      ∷ (leb R.waiting (all_groups y * contents y), 3) ∷ []

  pub move-lowest : LowestThatApplies move_table n
  move-lowest = subst⁻¹ (LowestThatApplies move_table) p.answer (MProofs.move-lowest y R (length img) room)

  -- "a refusal leaves it zero", over its whole length
  pub move-refused : (n ≡ 0 → ⊥) → new ≡ zeros room
  move-refused never = p.image ∙ M.move-refused y R img room (λ z. never (p.answer ∙ z))

  -- what an accepted move was given
  pub move_given : n ≡ 0 → Sound y R (length img) × (room ≡ image_length y)
  move_given z = MProofs.move-asked y R (length img) room (sym p.answer ∙ z)

  -- and that it is accepted where it is given that
  pub move_accepts : Sound y R (length img) → room ≡ image_length y → n ≡ 0
  move_accepts s e = p.answer ∙ MProofs.move_granted y R (length img) room s e

  -- ---- an accepted move, of any old image whatsoever: failures, repaired or not, and units of a group that disagree

  module _ (z : n ≡ 0) where
    granted : move_refusal y R (length img) room ≡ 0
    granted = sym p.answer ∙ z

    sound : Sound y R (length img)
    sound = (move_given z).0

    is : new ≡ fresh_image (other_edition y) (shown_file y R img)
    is = p.image ∙ MProofs.move_accepted y R img room granted

    -- every byte of the new image: a content, at its own place, is what encoding afresh the file that reads of the old pool show puts there,
    pub move_encodes : (g o c : ℕ) → g < all_groups y → o < y.u → c < contents y
        → at new (spot (other_edition y) g c o) ≡ encoded (other_edition y) (shown_file y R img) g o c
    unfolding other_edition
    move_encodes g o c hg ho hc =
        ap (λ (l : List ℕ). at l (spot (other_edition y) g c o)) is
        ∙ F.fresh_at (other_edition y) (other_valid y sound.valid) (shown_file y R img) g o c (omega (arith, hg, other-groups y)) ho hc

    -- and every other is one of "zero spares"
    pub move_spares : (x : ℕ) → x < room → contents y ≤ (unit_here (other_edition y) x).unit → at new x ≡ 0
    unfolding other_edition
    move_spares x h le =
        ap (λ (l : List ℕ). at l x) is
        ∙ F.fresh_spare (other_edition y) (other_valid y sound.valid) (shown_file y R img) x (omega (arith, h, (move_given z).1, other_image y)) le

    -- so it has the parity of its own data
    pub move_clean : Clean (other_edition y) new
    move_clean = subst⁻¹ (Clean (other_edition y)) p.image (MProofs.new_clean y R img room granted [])

    -- "Reads agree over the whole capacity": a read of the new pool, under an empty list, and the same read of the old one answer and show the same,
    -- accepted or refused
    pub move_reads_agree : (entries : List ℕ) (offset size m m' : ℕ) (out out' : List ℕ) → Reads (other_edition y) (unfailed entries) new offset size m out
        → Reads y R img offset size m' out' → (m ≡ m') × (out ≡ out')
    move_reads_agree entries offset size m m' out out' a b =
        let a' = subst (λ (l : List ℕ). Reads (other_edition y) (unfailed entries) l offset size m out) p.image a in (
          a'.answer ∙ MProofs.numbers_agree y R img room granted entries offset size ∙ sym b.answer,
          a'.bytes ∙ MProofs.reads_agree y R img room granted entries offset size ∙ sym b.bytes,
        )

    -- that of the whole file is accepted by both
    pub whole_file_read : (m : ℕ) (out : List ℕ) → Reads y R img 0 (capacity y) m out → m ≡ 0
    unfolding range_refusal
    whole_file_read m out q =
        q.answer ∙ sound-passes y R (length img) sound (range_tests y 0 (capacity y))
        ∙ refusal_none (range_tests y 0 (capacity y)) (le-leb 0 (capacity y) (omega arith), (le-leb (capacity y) (capacity y - 0) (omega arith), tt))

pub move_tight : (y : Layout) (R : Record) (img : List ℕ) (room n n' : ℕ) (new new' : List ℕ) → Moves y R img room n new → Moves y R img room n' new'
    → (n ≡ n') × (new ≡ new')
move_tight y R img room n n' new new' p q = (same p.answer q.answer, same p.image q.image)

-- ---- "Moving there and back gives the first image again if it had an empty list, zero spares and the parity of its own data"

pub there_and_back : (y : Layout) → Valid y → (img : List ℕ) → Clean y img → (entries entries' : List ℕ) (room room' : ℕ) → room ≡ image_length y → room' ≡ image_length y
    → (n n' : ℕ) (new back : List ℕ) → Moves y (unfailed entries) img room n new → Moves (other_edition y) (unfailed entries') new room' n' back
    → (n ≡ 0) × (n' ≡ 0) × (back ≡ img)
there_and_back y v img k entries entries' room room' e e' n n' new back p q =
    let q' = subst (λ (l : List ℕ). Moves (other_edition y) (unfailed entries') l room' n' back) p.image q in (
      p.answer ∙ MProofs.clean_accepted y v img k entries room e,
      q'.answer ∙ MProofs.back_accepted y v img k entries room e entries' room' e',
      q'.image ∙ MProofs.there_and_back y v img k entries room e entries' room' e',
    )

-- ---- from a pool that demand 3 can reach: after any run of calls that keep their promises, from zeros and an empty list

module _ (y : Layout) (valid : Valid y) (room : List ℕ) (three : length room ≡ 3) (es : List Event) (s : State) (reached : Reaches y (start y room) es s)
    (lent n : ℕ) (new : List ℕ) (p : Moves y s.rec s.img lent n new) (fits : lent ≡ image_length y) (entries : List ℕ) (three' : length entries ≡ 3) where
  inside : Inside y s
  inside = reached_inside y valid room three es s reached

  -- the move is accepted
  pub moved_accepted : n ≡ 0
  moved_accepted = move_accepts y s.rec s.img lent n new p (inside-sound y valid s inside) fits

  -- "the new one has an empty list", and the current file is the old pool's
  abbrev pub moved : State
  moved = record { rec = unfailed entries; img = new; file = s.file }

  moved_inside : Inside (other_edition y) moved
  moved_inside =
      record {
        kept = record { room = three'; good = F.unfailed-good (other_edition y) entries };
        holds =
            subst⁻¹ (λ (l : List ℕ). Holds (other_edition y) (unfailed entries) l s.file) p.image
            (MProofs.move_holds y s.rec s.img lent (sym p.answer ∙ moved_accepted) entries s.file inside.holds);
        counted = sym (unfailed_clear (other_edition y) (unfailed entries) refl);
      }

  -- demand 3 holds there, and after every event of a run that goes on there, as from zeros
  pub moved_right : (more : List Event) → Right (other_edition y) (run (other_edition y) moved more)
  moved_right = right_from (other_edition y) (other_valid y valid) moved moved_inside

  -- of the calls themselves too,
  pub moved_calls_right : (more : List Event) (s' : State) → Reaches (other_edition y) moved more s' → OutcomesRight (other_edition y) s'
  moved_calls_right = calls_right_from (other_edition y) (other_valid y valid) moved moved_inside

  -- and the file is the old pool's, with the accepted writes laid on in order
  pub moved_file : (more : List Event) → (run (other_edition y) moved more).file ≡ laid_on (other_edition y) s.file more
  moved_file more = laid (other_edition y) (other_valid y valid) more moved moved_inside

-- while nothing has failed there, and the spares are the zeros that they began with, it has the parity of its own data: so a move there and back gives its image
-- again
module _ (y : Layout) (valid : Valid y) (room : List ℕ) (three : length room ≡ 3) (es : List Event) (s : State) (reached : Reaches y (start y room) es s)
    (unfailing : s.rec.k ≡ 0) (spares : (x : ℕ) → x < image_length y → contents y ≤ (unit_here y x).unit → at s.img x ≡ 0) where
  kept_right : Inside y s
  kept_right = reached_inside y valid room three es s reached

  empty_list : s.rec ≡ unfailed s.rec.failed
  empty_list =
      let q : s.rec.q ≡ 0 = omega (arith, kept_right.kept.good.mended, unfailing) in
      let w : s.rec.waiting ≡ 0 = kept_right.counted ∙ unfailed_clear y s.rec unfailing in
      λ i. record { failed = s.rec.failed; k = unfailing i; q = q i; waiting = w i }

  pub reached_clean : Clean y s.img
  reached_clean =
      F.holds_clean y s.rec.failed s.img s.file (subst (λ (R : Record). Holds y R s.img s.file) empty_list kept_right.holds) spares

  pub reached_there_and_back : (entries : List ℕ) (lent lent' : ℕ) → lent ≡ image_length y → lent' ≡ image_length y → (n n' : ℕ) (new back : List ℕ)
      → Moves y s.rec s.img lent n new → Moves (other_edition y) (unfailed entries) new lent' n' back → (n ≡ 0) × (n' ≡ 0) × (back ≡ s.img)
  reached_there_and_back entries lent lent' e e' n n' new back p =
      there_and_back y valid s.img reached_clean s.rec.failed entries lent lent' e e' n n' new back
      (subst (λ (R : Record). Moves y R s.img lent n new) empty_list p)

-- ---- what a move does not depend on: what the new image held, since the promise takes its length alone; a failed target's bytes and an unused spare's,

pub move_independent : (y : Layout) (R : Record) (img img' : List ℕ) → AgreeElsewhere y R img img' → (room : ℕ)
    → (move_refusal y R (length img) room ≡ move_refusal y R (length img') room) × (move_image y R img room ≡ move_image y R img' room)
move_independent y R img img' agree room =
    let a = agree_of y R img img' agree in (MProofs.move-number_blind y R img img' a room, MProofs.move_blind y R img img' a room)

-- nor a record's entries from k on,
pub move_unread : (y : Layout) (R R' : Record) → Alike R R' → (img : List ℕ) (room : ℕ)
    → (move_refusal y R (length img) room ≡ move_refusal y R' (length img) room) × (move_image y R img room ≡ move_image y R' img room)
move_unread y R R' alike img room = (MProofs.move-number_unread y R R' alike room (length img), MProofs.move_unread y R R' alike room img)

-- nor, but for number 3, its count (order 6); both counts are within the bound
module _ (y : Layout) (R : Record) (n : ℕ) (fits : R.waiting ≤ all_contents y) (fits' : n ≤ all_contents y) where
  number_same : (len room : ℕ) → move_refusal y R len room ≡ move_refusal y (recounted R n) len room
  unfolding move_refusal record_good
  number_same len room =
      ap (λ (b : Bool). refusal_by ((validb y, 1) ∷ (eqb len (image_length y), 2) ∷ (eqb room (image_length y), 2) ∷ (record_good y R, 3) ∷ (b, 3) ∷ []))
      (le-leb R.waiting (all_contents y) fits ∙ sym (le-leb n (all_contents y) fits'))

  pub move_uncounted : (img : List ℕ) (room : ℕ)
      → (move_refusal y R (length img) room ≡ move_refusal y (recounted R n) (length img) room) × (move_image y R img room ≡ move_image y (recounted R n) img room)
  unfolding move_image shown_file file_byte content_byte stored missing home
  move_uncounted img room = (number_same (length img) room, rw (number_same (length img) room))
