-- Lines, units and bytes: byte o of the unit of line i is image byte U·i + o, and character j of line i is character (11+2U)·i + j of the text.
use Rattle.std.specs.Prelude.{◌≡◌, refl, List, ℕ, ◌+◌, ◌*◌, ◌/◌, ◌%◌, ◌≤◌, ◌<◌, length}
use Rattle.std.proofs.Common.{sym, ap, ◌∙◌, subst, mul_comm, mul_assoc, mul_left_comm, mul-pos, mul-suc, add-mul, div-add-mod', mod-lt, mul-le-mul, add-one, arith}
use Rattle.std.proofs.Math.Nat.{div-add-mod}
use Rattle.lists.specs.Digits.{div_of, mod_of, digits_below, div_below}
use Rattle.lists.specs.Tabulate.{at, get_d_tabulate, length-tabulate}
use Rattle.numbers.specs.declared.Layout.{Layout}
use Rattle.numbers.specs.Layouts.{Valid, rows, frames, image_length}
use Rattle.numbers.specs.Shapes.{rows_pos, layout_products}
use Rattle.place.specs.Bytes.{spot_of}
use Rattle.hexline.specs.HexLine.{unit_byte}
use Rattle.pool_text.specs.Text.{line_length, line_count, text_length, line_target, line_frame, pool_char, pool_text}

-- "Frame r of target p begins at p·L·T·U + r·U": at U·i for line i
line-spot : (y : Layout) (i o : ℕ) → spot_of y (record { frame = line_frame y i; target = line_target y i }) o ≡ y.u * i + o
unfolding spot_of
line-spot y i o =
    ap (λ (x : ℕ). x + o)
    (ap (λ (x : ℕ). x + i % frames y * y.u) (sym (mul_assoc (i / frames y) (frames y) y.u))
    ∙ sym (add-mul (i / frames y * frames y) (i % frames y) y.u)
    ∙ ap (λ (x : ℕ). x * y.u) (div-add-mod' i (frames y))
    ∙ mul_comm i y.u)

pub unit_byte_lem : (y : Layout) (image : List ℕ) (i o : ℕ) → unit_byte y image (line_target y i) (line_frame y i) o ≡ at image (y.u * i + o)
unfolding unit_byte
unit_byte_lem y image i o = ap (at image) (line-spot y i o)

-- U bytes a line
pub image_lines : (y : Layout) → image_length y ≡ y.u * line_count y
image_lines y = simp (mul_assoc, mul_comm, mul_left_comm) refl

module _ (y : Layout) (i : ℕ) (h : i < line_count y) where
  pub unit_in_lem : (o : ℕ) → o < y.u → y.u * i + o < image_length y
  unit_in_lem o b = subst (λ (n : ℕ). y.u * i + o < n) (sym (image_lines y)) (digits_below h b)

  pub char_in : (j : ℕ) → j < line_length y → line_length y * i + j < text_length y
  char_in j b = digits_below h b

  -- character j of line i of the whole pool
  pub char_at : (image : List ℕ) (j : ℕ) → j < line_length y → at (pool_text y image) (line_length y * i + j) ≡ pool_char y image i j
  unfolding pool_text
  char_at image j b =
      get_d_tabulate (text_length y) _ (line_length y * i + j) 0 (char_in j b)
      ∙ (λ k. pool_char y image (div_of (line_length y) i b k) (mod_of (line_length y) i b k))

pub text-length : (y : Layout) (image : List ℕ) → length (pool_text y image) ≡ text_length y
unfolding pool_text
text-length y image = length-tabulate (text_length y) _

-- the line of an image byte, and the line and place of a character
pub byte_line : (y : Layout) → Valid y → (x : ℕ) → x < image_length y → x / y.u < line_count y
byte_line y v x h = div_below x y.u (line_count y) v.some_bytes (subst (λ (n : ℕ). x < n) (image_lines y) h)

pub char_line : (y : Layout) (b : ℕ) → b < text_length y → b / line_length y < line_count y
char_line y b h = div_below b (line_length y) (line_count y) (omega arith) h

pub char_place : (y : Layout) (b : ℕ) → b % line_length y < line_length y
char_place y b = mod-lt b (omega arith)

-- a line's target and frame are there
pub target_in : (y : Layout) → Valid y → (i : ℕ) → i < line_count y → line_target y i < y.p
target_in y v i h =
    div_below i (frames y) y.p (mul-pos (rows_pos y v) v.some_tiles) (subst (λ (n : ℕ). i < n) (mul_comm y.p (frames y)) h)

pub frame_in : (y : Layout) → Valid y → (i : ℕ) → line_frame y i < frames y
frame_in y v i = mod-lt i (mul-pos (rows_pos y v) v.some_tiles)

-- the lines, by the number of frames as the code has it
pub lines_are : (y : Layout) (f : ℕ) → f ≡ frames y → y.p * f ≡ line_count y
lines_are y f e = ap (λ (n : ℕ). y.p * n) e

-- the numbers of lines and of characters fit 64 bits
pub lines-few : (y : Layout) → Valid y → line_count y ≤ 92274688
lines-few y v = let e : line_count y ≡ y.p * rows y * y.t = sym (mul_assoc y.p (rows y) y.t) in let l = (layout_products y v).places in omega (arith, e, l)

pub text-few : (y : Layout) → Valid y → text_length y ≤ 756929265664
text-few y v = let u = v.few_bytes in let l : line_length y ≤ 8203 = omega arith in omega (arith, mul-le-mul l (lines-few y v))

-- of runs of n, the next one begins n further on
pub next_start : (n i : ℕ) → n * (i + 1) ≡ n * i + n
next_start n i = ap (λ (k : ℕ). n * k) (add-one i) ∙ mul-suc n i

-- the next line's target and frame
module _ (y : Layout) (i : ℕ) where
  line_digits : frames y * line_target y i + line_frame y i ≡ i
  line_digits = div-add-mod i (frames y)

  pub next_frame : line_frame y i + 1 < frames y → (line_target y (i + 1) ≡ line_target y i) × (line_frame y (i + 1) ≡ line_frame y i + 1)
  next_frame h =
      let e : i + 1 ≡ frames y * line_target y i + (line_frame y i + 1) = let d = line_digits in omega (arith, d) in
      (ap (λ (x : ℕ). x / frames y) e ∙ div_of (frames y) (line_target y i) h, ap (λ (x : ℕ). x % frames y) e ∙ mod_of (frames y) (line_target y i) h)

  pub next_target : 0 < frames y → line_frame y i + 1 ≡ frames y → (line_target y (i + 1) ≡ line_target y i + 1) × (line_frame y (i + 1) ≡ 0)
  next_target pos h =
      let e : i + 1 ≡ frames y * (line_target y i + 1) + 0 = let d = line_digits in let m = next_start (frames y) (line_target y i) in omega (arith, d, m) in
      (ap (λ (x : ℕ). x / frames y) e ∙ div_of (frames y) (line_target y i + 1) pos, ap (λ (x : ℕ). x % frames y) e ∙ mod_of (frames y) (line_target y i + 1) pos)
