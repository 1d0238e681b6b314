-- "Writing then reading gives the image back, and the other way round", and "It accepts exactly what the writer makes for the whole pool".
use Rattle.std.specs.Prelude.{◌≡◌, true, false, List, eqb, length}
use Rattle.std.proofs.Math.Path.{sym, ap, subst}
use Rattle.std.proofs.Common.{◌∙◌, mod-lt, suc-ne-zero, arith, eq-eqb, eqb-true}
use Rattle.std.proofs.Math.Logic.{⊎_elim}
use Prim.Native.Nat.{ℕ, ◌+◌, ◌*◌, ◌/◌, ◌%◌, ◌<◌}
use Rattle.std.proofs.Math.Nat.{div-add-mod}
use Rattle.lists.specs.Pick.{pick_true, pick-false, both_true, both_hold, either_way}
use Rattle.lists.specs.Digits.{div_of, mod_of}
use Rattle.lists.specs.Search.{all, all-at, all_true}
use Rattle.lists.specs.Tabulate.{at, tabulated, get_d_tabulate, length-tabulate}
use Rattle.numbers.specs.declared.Layout.{Layout}
use Rattle.numbers.specs.Layouts.{Valid, image_length}
use Rattle.hex_text.specs.Hex.{line_char}
use Rattle.hex_text.specs.DigitLaws.{told-lt}
use Rattle.hex_text.specs.Line.{byte_at}
use Rattle.hex_text.specs.LineLaws.{line_ext, written_right, written_byte}
use Rattle.hex_text.proofs.LineLaws.{right_written}
use Rattle.hexline.specs.HexLine.{unit_byte}
use Rattle.pool_text.specs.Text.{line_length, line_count, text_length, line_target, line_frame, pool_char, pool_text, Made}
use Rattle.pool_text.specs.Reading.{right_at, text_right, first_wrong, text_byte, text_image}
use Rattle.pool_text.specs.Places.{unit_byte_lem, unit_in_lem, char_in, char_at, text-length, byte_line, char_line, char_place}

-- ---- writing then reading

module _ (y : Layout) (image : List ℕ) where
  abbrev byte_of : ℕ → ℕ → ℕ
  byte_of i = unit_byte y image (line_target y i) (line_frame y i)

  -- line i of the text stands as it is written
  stands : (i : ℕ) → i < line_count y → (j : ℕ) → j < line_length y
      → at (pool_text y image) (line_length y * i + j) ≡ line_char (line_target y i) (line_frame y i) y.u (byte_of i) j
  unfolding pool_char
  stands i h j b = char_at y i h image j b

  written-line_right : (i : ℕ) → i < line_count y → right_at y (pool_text y image) i ≡ true
  written-line_right i h =
      written_right (line_target y i) (line_frame y i) y.u (byte_of i) (pool_text y image) (line_length y * i) (stands i h)
      (let last = char_in y i h (10 + 2 * y.u) (omega arith) in let len = text-length y image in omega (arith, last, len))

  -- what the writer makes is accepted
  written_accepted : first_wrong y (pool_text y image) ≡ 0
  unfolding first_wrong text_right
  written_accepted =
      pick_true (text_right y (pool_text y image)) 0 _
      (both_hold (all (right_at y (pool_text y image)) (line_count y)) _ (all_true (right_at y (pool_text y image)) (line_count y) written-line_right)
      (eq-eqb (length (pool_text y image)) (text_length y) (text-length y image)))

  -- and tells the image
  byte_back : Valid y → (x : ℕ) → x < image_length y → at image x < 256 → text_byte y (pool_text y image) x ≡ at image x
  unfolding text_byte
  byte_back v x h small =
      written_byte (line_target y i) (line_frame y i) y.u (byte_of i) (pool_text y image) (line_length y * i) (stands i (byte_line y v x h))
      (x % y.u) (mod-lt x v.some_bytes) (subst (λ (b : ℕ). b < 256) (sym here) small)
      ∙ here
    where
      i : ℕ
      i = x / y.u

      here : unit_byte y image (line_target y (x / y.u)) (line_frame y (x / y.u)) (x % y.u) ≡ at image x
      here = unit_byte_lem y image (x / y.u) (x % y.u) ∙ ap (at image) (div-add-mod x y.u)

  read_after_write : Valid y → length image ≡ image_length y → ((x : ℕ) → x < length image → at image x < 256) → text_image y (pool_text y image) ≡ image
  unfolding text_image
  read_after_write v len small =
      sym (tabulated (image_length y) (text_byte y (pool_text y image)) image 0 len
      (λ x h. sym (byte_back v x h (small x (subst (λ (n : ℕ). x < n) (sym len) h)))))

-- ---- reading then writing

module _ (y : Layout) (text : List ℕ) where
  pub told-length : length (text_image y text) ≡ image_length y
  unfolding text_image
  told-length = length-tabulate (image_length y) _

  -- byte o of the unit of line i
  pub byte_here : (i o : ℕ) → o < y.u → text_byte y text (y.u * i + o) ≡ byte_at text (line_length y * i + (10 + 2 * o))
  unfolding text_byte
  byte_here i o h = ap (byte_at text) (λ k. line_length y * div_of y.u i h k + (10 + 2 * mod_of y.u i h k))

  told_byte : (i o : ℕ) → i < line_count y → o < y.u
      → byte_at text (line_length y * i + (10 + 2 * o)) ≡ unit_byte y (text_image y text) (line_target y i) (line_frame y i) o
  unfolding text_image
  told_byte i o h b =
      sym (byte_here i o b) ∙ sym (get_d_tabulate (image_length y) (text_byte y text) (y.u * i + o) 0 (unit_in_lem y i h o b))
      ∙ sym (unit_byte_lem y (text_image y text) i o)

  -- a right line is the writer's, for the image that the text tells
  pub line-told : (i : ℕ) → right_at y text i ≡ true → i < line_count y → (j : ℕ) → j < line_length y
      → at text (line_length y * i + j) ≡ pool_char y (text_image y text) i j
  unfolding pool_char
  line-told i t h j b =
      right_written text (line_length y * i) (line_target y i) (line_frame y i) y.u t j b
      ∙ line_ext (line_target y i) (line_frame y i) y.u _ _ (λ o k. told_byte i o h k) j

  accepted_right : first_wrong y text ≡ 0 → text_right y text ≡ true
  unfolding first_wrong
  accepted_right e =
      ⊎_elim (λ (t : text_right y text ≡ true). t)
      (λ (t : text_right y text ≡ false). absurd (suc-ne-zero _ (sym (pick-false (text_right y text) 0 _ t) ∙ e)))
      (either_way (text_right y text))

  pub write_after_read : first_wrong y text ≡ 0 → pool_text y (text_image y text) ≡ text
  unfolding pool_text text_right
  write_after_read e =
      let t = both_true (all (right_at y text) (line_count y)) (eqb (length text) (text_length y)) (accepted_right e) in
      sym (tabulated (text_length y) _ text 0 (eqb-true (length text) (text_length y) t.1)
      (λ b h.
      ap (at text) (sym (div-add-mod b (line_length y)))
      ∙ line-told (b / line_length y) (all-at (right_at y text) (line_count y) t.0 (b / line_length y) (char_line y b h)) (char_line y b h)
      (b % line_length y) (char_place y b)))

  -- the image told is one of bytes
  told_bytes : (x : ℕ) → x < length (text_image y text) → at (text_image y text) x < 256
  unfolding text_image text_byte
  told_bytes x h =
      subst (λ (b : ℕ). b < 256)
      (sym (get_d_tabulate (image_length y) (text_byte y text) x 0 (subst (λ (n : ℕ). x < n) (length-tabulate (image_length y) (text_byte y text)) h)))
      (told-lt _ _)

-- ---- accepted exactly if some image of that layout makes this text

pub accepts_made : (y : Layout) (text : List ℕ) → Made y text → first_wrong y text ≡ 0
accepts_made y text m = ap (first_wrong y) m.is ∙ written_accepted y m.image

pub accepts_only_made : (y : Layout) (text : List ℕ) → first_wrong y text ≡ 0 → Made y text
accepts_only_made y text e =
    record { image = text_image y text; exact = told-length y text; bytes = told_bytes y text; is = sym (write_after_read y text e) }

-- and the image is the only one
pub made_once : (y : Layout) → Valid y → (text : List ℕ) (m : Made y text) → text_image y text ≡ m.image
made_once y v text m = ap (text_image y) m.is ∙ read_after_write y m.image v m.exact m.bytes
