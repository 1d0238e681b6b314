-- The lines of the text of a whole pool are the hex lines of its frames, and a right line is one.
use Rattle.std.specs.Prelude.{◌≡◌, true, List, [], ◌∷◌, ℕ, ◌+◌, ◌*◌, ◌/◌, ◌%◌, ◌≤◌, ◌<◌, ltb, eqb, length}
use Rattle.std.proofs.Math.Path.{refl, sym, ap}
use Rattle.std.proofs.Common.{◌∙◌, subst, mul_comm}
use Rattle.std.proofs.Math.Nat.{div-add-mod}
use borrow.Author.Tests.{eq-eqb, lt-ltb}
use Rattle.lists.specs.Digits.{div_of, mod_of, digits_below}
use Rattle.lists.specs.Tabulate.{at, tabulate, tabulated, tabulate_ext, get_d_tabulate}
use Rattle.lists.specs.Refusal.{refusal_none, grant_yes}
use Rattle.numbers.specs.declared.Layout.{Layout}
use Rattle.numbers.specs.Layouts.{Valid, frames, image_length}
use Rattle.numbers.specs.Refused.{validb, valid_true}
use Rattle.hex_text.specs.LineLaws.{written_right}
use Rattle.hex_text.proofs.LineLaws.{right_there}
use Rattle.hexline.specs.HexLine.{unit_byte, hex_refusal, hex_line}
use Rattle.pool_text.specs.Text.{line_length, line_count, text_length, line_target, line_frame, pool_char, pool_text, line_of, frame_line}
use Rattle.pool_text.specs.Reading.{right_at, text_image}
use Rattle.pool_text.specs.Places.{char_at, char_line, char_place, target_in, frame_in}
use Rattle.pool_text.specs.RoundTrip.{told-length, line-told}

module _ (y : Layout) (v : Valid y) (image : List ℕ) (exact : length image ≡ image_length y) where
  line_granted : (i : ℕ) → i < line_count y → hex_refusal y (length image) (line_target y i) (line_frame y i) (line_length y) ≡ 0
  unfolding hex_refusal
  line_granted i h =
      refusal_none
      ((validb y, 1) ∷ (eqb (length image) (image_length y), 2) ∷ (ltb (line_target y i) y.p, 4) ∷ (ltb (line_frame y i) (frames y), 4)
      ∷ (eqb (line_length y) (11 + 2 * y.u), 5) ∷ []) (
        valid_true y v,
        (
          eq-eqb (length image) (image_length y) exact,
          (
            lt-ltb (line_target y i) y.p (target_in y v i h),
            (lt-ltb (line_frame y i) (frames y) (frame_in y v i), (eq-eqb (line_length y) (line_length y) refl, tt)),
          ),
        ),
      )

  frame_line_is : (i : ℕ) → i < line_count y → tabulate (line_length y) (pool_char y image i) ≡ frame_line y image i
  unfolding hex_line pool_char
  frame_line_is i h =
      tabulate_ext 0 (line_length y) _ _
      (λ j b. sym (grant_yes (hex_refusal y (length image) (line_target y i) (line_frame y i) (line_length y)) _ 0 (line_granted i h)))

  -- writing the whole pool and writing frame by frame agree
  line_is_hex_line : (i : ℕ) → i < line_count y → line_of y (pool_text y image) i ≡ frame_line y image i
  line_is_hex_line i h = tabulate_ext 0 (line_length y) _ _ (λ j b. char_at y i h image j b) ∙ frame_line_is i h

  pub frame_is_hex_line : (target frame : ℕ) → target < y.p → frame < frames y
      → line_of y (pool_text y image) (frames y * target + frame) ≡ hex_line y image target frame (line_length y)
  frame_is_hex_line target frame ht hf =
      line_is_hex_line (frames y * target + frame)
      (subst (λ (n : ℕ). frames y * target + frame < n) (mul_comm (frames y) y.p) (digits_below ht hf))
      ∙ (λ k. hex_line y image (div_of (frames y) target hf k) (mod_of (frames y) target hf k) (line_length y))

  char_of_line : (text : List ℕ) (i : ℕ) → i < line_count y → line_of y text i ≡ frame_line y image i
      → (j : ℕ) → j < line_length y → at text (line_length y * i + j) ≡ pool_char y image i j
  char_of_line text i h e j b =
      sym (get_d_tabulate (line_length y) (λ k. at text (line_length y * i + k)) j 0 b)
      ∙ ap (λ (l : List ℕ). at l j) (e ∙ sym (frame_line_is i h)) ∙ get_d_tabulate (line_length y) (pool_char y image i) j 0 b

  -- the hex lines of all frames one after another are the text of the whole pool
  pub hex_lines_make : (text : List ℕ) → length text ≡ text_length y → ((i : ℕ) → i < line_count y → line_of y text i ≡ frame_line y image i)
      → text ≡ pool_text y image
  unfolding pool_text
  hex_lines_make text len e =
      tabulated (text_length y) _ text 0 len
      (λ b h.
      ap (at text) (sym (div-add-mod b (line_length y)))
      ∙ char_of_line text (b / line_length y) (char_line y b h) (e (b / line_length y) (char_line y b h)) (b % line_length y) (char_place y b))

  -- a line that is there, and is the hex line of its frame for some image, is right
  pub hex_line_right : (text : List ℕ) (i : ℕ) → i < line_count y → line_length y * i + line_length y ≤ length text → line_of y text i ≡ frame_line y image i
      → right_at y text i ≡ true
  unfolding pool_char
  hex_line_right text i h room e =
      written_right (line_target y i) (line_frame y i) y.u (unit_byte y image (line_target y i) (line_frame y i)) text (line_length y * i)
      (char_of_line text i h e) room

module _ (y : Layout) (text : List ℕ) where
  -- and a right line is there, and is the hex line of its frame for the image that the text tells
  pub right_line-there : (i : ℕ) → right_at y text i ≡ true → line_length y * i + line_length y ≤ length text
  right_line-there i t = right_there text (line_length y * i) (line_target y i) (line_frame y i) y.u t

  pub right_line_hex : Valid y → (i : ℕ) → i < line_count y → right_at y text i ≡ true → line_of y text i ≡ frame_line y (text_image y text) i
  right_line_hex v i h t =
      tabulate_ext 0 (line_length y) _ _ (λ j b. line-told y text i t h j b) ∙ frame_line_is y v (text_image y text) (told-length y text) i h
