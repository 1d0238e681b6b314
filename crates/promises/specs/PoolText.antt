-- Document 02, order 1: a pool as text. "An image lent to be filled, here or in order 9, is outside demand 3's runs": the reader is no event of a
-- run (`Runs`), and of an image filled from any accepted text nothing is said but what the text tells. Where the text was written from an image that
-- a run has reached, the image filled is that one (`written_then_read`).
use Rattle.std.specs.Prelude.{◌≡◌, refl, Bool, true, false, List, [], ◌∷◌, ℕ, suc, ◌+◌, ◌*◌, ◌-◌, ◌≤◌, ◌<◌, eqb, length}
use Rattle.std.proofs.Common.{sym, ap, ◌∙◌, ⊎_elim, arith}
use Rattle.std.proofs.Math.Path.{subst⁻¹}
use borrow.Author.Tests.{eqb-true, eq-eqb}
use Rattle.lists.specs.Pick.{below_or_not, clash}
use Rattle.lists.specs.Tabulate.{at, zeros}
use Rattle.lists.specs.Refusal.{LowestThatApplies, refusal_lowest, refusal_none, grant_yes, grant_no}
use Rattle.numbers.specs.declared.Layout.{Layout}
use Rattle.numbers.specs.Layouts.{Valid, frames, image_length}
use Rattle.numbers.specs.Refused.{validb, valid_of, valid_true}
use Rattle.hexline.specs.HexLine.{hex_line, HexLine}
use Rattle.hexline.specs.HexCall as C
use Rattle.pool_text.specs.Text.{line_length, line_count, text_length, pool_text, Made, line_of, frame_line}
use Rattle.pool_text.specs.Reading.{right_at, first_wrong, FirstWrong, text_image}
use Rattle.pool_text.specs.TextCalls.{write_text_refusal, text_written, WritesText, read_text_refusal, wrong_line, image_read, ReadsText}
use Rattle.pool_text.specs.Places.{text-length}
use Rattle.pool_text.specs.RoundTrip as T
use Rattle.pool_text.specs.FrameLines as F
use Rattle.pool_text.specs.WrongLines as W
use Rattle.pool_text.specs.CallLaws as L
use Rattle.promises.specs.Tight.{same}

-- ---- the writer

module _ (y : Layout) (image old : List ℕ) (r : ℕ) (text : List ℕ) (p : WritesText y image old r text) where
  -- the number that the call answers is the lowest that applies
  abbrev write_table : List (Bool × ℕ)
  write_table = (validb y, 1) ∷ (eqb (length image) (image_length y), 2) ∷ (eqb (length old) (text_length y), 5) ∷ []

  pub write_text-lowest : LowestThatApplies write_table r
  unfolding write_text_refusal
  write_text-lowest = subst⁻¹ (LowestThatApplies write_table) p.answer (refusal_lowest 1 write_table (omega arith) refl)

  pub write_text-refused : (r ≡ 0 → ⊥) → text ≡ zeros (length old)
  unfolding text_written
  write_text-refused never = p.text ∙ grant_no (write_text_refusal y (length image) (length old)) _ _ (λ z. never (p.answer ∙ z))

  -- what an accepted call was given, and what it wrote
  pub record AcceptedWrite : Type 0 where
    pub valid : Valid y
    pub whole : length image ≡ image_length y
    pub room : length old ≡ text_length y
    pub is : text ≡ pool_text y image

  pub write_text_accepted : r ≡ 0 → AcceptedWrite
  unfolding text_written
  write_text_accepted z =
      let t = write_text-lowest.none z in
      record {
        valid = valid_of y t.0;
        whole = eqb-true (length image) (image_length y) t.1.0;
        room = eqb-true (length old) (text_length y) t.1.1.0;
        is = p.text ∙ grant_yes (write_text_refusal y (length image) (length old)) _ _ (sym p.answer ∙ z);
      }

  -- each line of the text is the one that `hex_line` writes for its frame, targets rising and frames rising within each
  pub text_is_hex_lines : r ≡ 0 → (target frame : ℕ) (blank line : List ℕ) → HexLine y image target frame blank 0 line
      → line_of y text (frames y * target + frame) ≡ line
  text_is_hex_lines z target frame blank line q =
      let w = write_text_accepted z in
      let a = C.accepted_line y (length image) target frame (length blank) (sym q.answer) in
      ap (λ (t : List ℕ). line_of y t (frames y * target + frame)) w.is
      ∙ F.frame_is_hex_line y w.valid image w.whole target frame a.target_in a.frame_in
      ∙ ap (hex_line y image target frame) (sym a.exact) ∙ sym q.line

pub write_text_tight : (y : Layout) (image old : List ℕ) (r r' : ℕ) (text text' : List ℕ) → WritesText y image old r text → WritesText y image old r' text'
    → (r ≡ r') × (text ≡ text')
write_text_tight y image old r r' text text' p q = (same p.answer q.answer, same p.text q.text)

-- ---- the reader

module _ (y : Layout) (old text : List ℕ) (r line : ℕ) (image : List ℕ) (p : ReadsText y old text r line image) where
  -- the number that the call answers is the lowest that applies
  abbrev read_table : List (Bool × ℕ)
  read_table = (validb y, 1) ∷ (eqb (length old) (image_length y), 2) ∷ (eqb (first_wrong y text) 0, 12) ∷ []

  pub read_text-lowest : LowestThatApplies read_table r
  unfolding read_text_refusal
  read_text-lowest = subst⁻¹ (LowestThatApplies read_table) p.answer (refusal_lowest 1 read_table (omega arith) refl)

  -- "On refusal the image is zeros"
  pub read_text-refused : (r ≡ 0 → ⊥) → image ≡ zeros (length old)
  unfolding image_read
  read_text-refused never = p.image ∙ grant_no (read_text_refusal y (length old) text) _ _ (λ z. never (p.answer ∙ z))

  -- "refused with new number 12 and the number of the first wrong line, counted from 1"
  pub read_text-line : r ≡ 12 → (0 < line) × FirstWrong y text line
  read_text-line e =
      let w = L.line_with_12 y (length old) text (sym p.answer ∙ e) in
      let is : line ≡ first_wrong y text = p.first_wrong_lem ∙ w.0 in
      (omega (arith, is, w.1), subst⁻¹ (FirstWrong y text) is (W.first_wrong_is_first y text))

  -- a text that ends before line i + 1 does is wrong there or earlier: an empty text at line 1
  pub read_text-ends_early : r ≡ 12 → (i : ℕ) → length text < line_length y * i + line_length y → line ≤ i + 1
  read_text-ends_early e i short =
      below_or_not (i + 1) line
      (λ (b : i + 1 < line).
      let there = F.right_line-there y text i ((read_text-line e).1.before i (omega arith)) in absurd (omega (arith, there)))
      (λ (b : line ≤ i + 1). b)

  -- a text whose P·L·T lines are right goes on after them, and is wrong at the next
  pub read_text_goes_on : r ≡ 12 → ((i : ℕ) → i < line_count y → right_at y text i ≡ true) → line ≡ line_count y + 1
  read_text_goes_on e right =
      let f = read_text-line e in
      let q : line ≡ suc (line - 1) = omega (arith, f.0) in
      ⊎_elim (λ (h : (line - 1 < line_count y) × (right_at y text (line - 1) ≡ false)). clash (right_at y text (line - 1)) (right (line - 1) h.0) h.1)
      (λ (h : (line - 1 ≡ line_count y) × (text_length y < length text)). let l = h.0 in omega (arith, l, f.0)) (f.1.here (line - 1) q)

  pub read_text_no_line : (r ≡ 12 → ⊥) → line ≡ 0
  read_text_no_line f = p.first_wrong_lem ∙ L.line-without_12 y (length old) text (λ e. f (p.answer ∙ e))

  -- what an accepted call was given, and what it told
  pub record AcceptedRead : Type 0 where
    pub valid : Valid y
    pub whole : length old ≡ image_length y
    pub right : first_wrong y text ≡ 0
    pub is : image ≡ text_image y text

  pub read_text_accepted : r ≡ 0 → AcceptedRead
  unfolding image_read
  read_text_accepted z =
      let t = read_text-lowest.none z in
      record {
        valid = valid_of y t.0;
        whole = eqb-true (length old) (image_length y) t.1.0;
        right = eqb-true (first_wrong y text) 0 t.1.1.0;
        is = p.image ∙ grant_yes (read_text_refusal y (length old) text) _ _ (sym p.answer ∙ z);
      }

  -- "It accepts exactly what the writer makes for the whole pool": of some image of bytes, which is the one that it shows
  pub read_text_accepts : Valid y → length old ≡ image_length y → Made y text → r ≡ 0
  unfolding read_text_refusal
  read_text_accepts v e m =
      p.answer
      ∙ refusal_none read_table
      (valid_true y v, (eq-eqb (length old) (image_length y) e, (eq-eqb (first_wrong y text) 0 (T.accepts_made y text m), tt)))

  pub read_text_accepts_only : r ≡ 0 → Made y text
  read_text_accepts_only z = T.accepts_only_made y text (read_text_accepted z).right

  pub read_text_shows : r ≡ 0 → (m : Made y text) → image ≡ m.image
  read_text_shows z m = let t = read_text_accepted z in t.is ∙ T.made_once y t.valid text m

pub read_text_tight : (y : Layout) (old text : List ℕ) (r r' line line' : ℕ) (image image' : List ℕ) → ReadsText y old text r line image
    → ReadsText y old text r' line' image' → (r ≡ r') × (line ≡ line') × (image ≡ image')
read_text_tight y old text r r' line line' image image' p q =
    (same p.answer q.answer, same p.first_wrong_lem q.first_wrong_lem, same p.image q.image)

-- of what the lent image held, nothing is told: images of one length give one outcome
pub read_text_unread : (y : Layout) (old old' text : List ℕ) → length old ≡ length old' → (r r' line line' : ℕ) (image image' : List ℕ)
    → ReadsText y old text r line image → ReadsText y old' text r' line' image' → (r ≡ r') × (line ≡ line') × (image ≡ image')
read_text_unread y old old' text e r r' line line' image image' p q = (
  p.answer ∙ ap (λ (n : ℕ). read_text_refusal y n text) e ∙ sym q.answer,
  p.first_wrong_lem ∙ ap (λ (n : ℕ). wrong_line y n text) e ∙ sym q.first_wrong_lem,
  p.image ∙ ap (λ (n : ℕ). image_read y n text) e ∙ sym q.image,
)

-- ---- a right line is one that `hex_line` writes for its frame, of some image

pub right_line_only : (y : Layout) → Valid y → (text : List ℕ) (i : ℕ) → i < line_count y → right_at y text i ≡ true
    → (line_length y * i + line_length y ≤ length text) × (length (text_image y text) ≡ image_length y) × (line_of y text i ≡ frame_line y (text_image y text) i)
right_line_only y v text i h t = (F.right_line-there y text i t, T.told-length y text, F.right_line_hex y text v i h t)

pub right_line : (y : Layout) → Valid y → (image : List ℕ) → length image ≡ image_length y → (text : List ℕ) (i : ℕ) → i < line_count y
    → line_length y * i + line_length y ≤ length text → line_of y text i ≡ frame_line y image i → right_at y text i ≡ true
right_line y v image e = F.hex_line_right y v image e

-- the lines of all frames one after another, and nothing else, are the text of the whole pool
pub hex_lines_are_the_text : (y : Layout) → Valid y → (image : List ℕ) → length image ≡ image_length y → (text : List ℕ) → length text ≡ text_length y
    → ((i : ℕ) → i < line_count y → line_of y text i ≡ frame_line y image i) → text ≡ pool_text y image
hex_lines_are_the_text y v image e = F.hex_lines_make y v image e

-- ---- "Writing then reading gives the image back, and the other way round."

-- a pool that was written is read back, into any image of its length
pub written_then_read : (y : Layout) (image old text : List ℕ) → ((x : ℕ) → x < length image → at image x < 256) → WritesText y image old 0 text
    → (lent : List ℕ) → length lent ≡ length image → (r line : ℕ) (new : List ℕ) → ReadsText y lent text r line new
    → (r ≡ 0) × (line ≡ 0) × (new ≡ image)
written_then_read y image old text bytes w lent len r line new q =
    let a = write_text_accepted y image old 0 text w refl in
    let m : Made y text = record { image = image; exact = a.whole; bytes = bytes; is = a.is } in
    let z = read_text_accepts y lent text r line new q a.valid (len ∙ a.whole) m in (
      z,
      read_text_no_line y lent text r line new q (λ e. absurd (omega (arith, z, e))),
      read_text_shows y lent text r line new q z m,
    )

-- a text that was read is written back, into any text of its length
pub read_then_written : (y : Layout) (old text : List ℕ) (line : ℕ) (image : List ℕ) → ReadsText y old text 0 line image
    → (lent : List ℕ) → length lent ≡ length text → (r : ℕ) (new : List ℕ) → WritesText y image lent r new → (r ≡ 0) × (new ≡ text)
unfolding write_text_refusal
read_then_written y old text line image q lent len r new w =
    let t = read_text_accepted y old text 0 line image q refl in
    let back : pool_text y image ≡ text = ap (pool_text y) t.is ∙ T.write_after_read y text t.right in
    let whole : length image ≡ image_length y = ap length t.is ∙ T.told-length y text in
    let room : length lent ≡ text_length y = len ∙ ap length (sym back) ∙ text-length y image in
    let z =
    w.answer
    ∙ refusal_none (write_table y image lent r new w)
    (valid_true y t.valid, (eq-eqb (length image) (image_length y) whole, (eq-eqb (length lent) (text_length y) room, tt))) in
    (z, (write_text_accepted y image lent r new w z).is ∙ back)
