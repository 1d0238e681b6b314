-- The characters of a line: those that do not depend on the bytes, and the two digits of each byte.
use Rattle.std.specs.Prelude.{◌≡◌, false, ℕ, ◌+◌, ◌*◌, ◌-◌, ◌/◌, ◌%◌, ◌≤◌, ◌<◌}
use Rattle.std.proofs.Common.{sym, ap, ◌∙◌, mod-lt, arith}
use Rattle.std.proofs.Math.Nat.{div-add-mod}
use Rattle.lists.specs.Pick.{below_or_not, equal_or_not, clash}
use Rattle.lists.specs.Part.{within, within_in}
use Rattle.lists.specs.Digits.{div_of, mod_of}
use Rattle.hex_text.specs.Hex.{digit_at, line_char}
use Rattle.hex_text.specs.HexChars.{char_target, char_space, char_frame, char_second, char_byte, char_end}

-- target, frame and spaces stand there whatever the bytes are, and however many
pub head_same : (target frame u u' : ℕ) (byte byte' : ℕ → ℕ) (j : ℕ) → j < 10 → line_char target frame u byte j ≡ line_char target frame u' byte' j
head_same target frame u u' byte byte' j h =
    below_or_not j 2 (λ (k : j < 2). char_target target frame u byte j k ∙ sym (char_target target frame u' byte' j k))
    (λ (k : 2 ≤ j).
    equal_or_not j 2 (λ (e : j ≡ 2). char_space target frame u byte j e ∙ sym (char_space target frame u' byte' j e))
    (λ (n : j ≡ 2 → ⊥).
    let past : 2 < j = omega arith in
    below_or_not j 9 (λ (l : j < 9). char_frame target frame u byte j past l ∙ sym (char_frame target frame u' byte' j past l))
    (λ (l : 9 ≤ j). let e : j ≡ 9 = omega arith in char_second target frame u byte j e ∙ sym (char_second target frame u' byte' j e))))

-- with the newline
pub fixed_same : (target frame u : ℕ) (byte byte' : ℕ → ℕ) (j : ℕ) → within 10 (2 * u) j ≡ false
    → line_char target frame u byte j ≡ line_char target frame u byte' j
fixed_same target frame u byte byte' j w =
    below_or_not j 10 (λ (h : j < 10). head_same target frame u u byte byte' j h)
    (λ (h : 10 ≤ j).
    below_or_not j (10 + 2 * u) (λ (l : j < 10 + 2 * u). clash (within 10 (2 * u) j) (within_in 10 (2 * u) j h l) w)
    (λ (l : 10 + 2 * u ≤ j). char_end target frame u byte j l ∙ sym (char_end target frame u byte' j l)))

-- a place among the digits is the first or the second of some byte's
pub digit_place : {A : Type 0} (u j : ℕ) → 10 ≤ j → j < 10 + 2 * u
    → ((o : ℕ) → o < u → j ≡ 10 + 2 * o → A) → ((o : ℕ) → o < u → j ≡ 10 + 2 * o + 1 → A) → A
digit_place u j h k f g =
    let e = div-add-mod (j - 10) 2 in
    let r = mod-lt (j - 10) {m = 2} (omega arith) in
    equal_or_not ((j - 10) % 2) 0 (λ (z : (j - 10) % 2 ≡ 0). f ((j - 10) / 2) (omega arith) (omega arith))
    (λ (z : (j - 10) % 2 ≡ 0 → ⊥).
    let one : (j - 10) % 2 ≡ 1 = omega arith in
    g ((j - 10) / 2) (omega arith) (omega arith))

-- among pairs that begin at place p, the place of half r of pair o
module _ (p o r : ℕ) (h : r < 2) where
  from_first : p + (2 * o + r) - p ≡ 2 * o + r
  from_first = omega arith

  pub which_pair : (p + (2 * o + r) - p) / 2 ≡ o
  which_pair = ap (λ (x : ℕ). x / 2) from_first ∙ div_of 2 o h

  pub which_half : (p + (2 * o + r) - p) % 2 ≡ r
  which_half = ap (λ (x : ℕ). x % 2) from_first ∙ mod_of 2 o h

module _ (target frame u : ℕ) (byte : ℕ → ℕ) (o : ℕ) (h : o < u) where
  -- digit r of byte o
  pub char_digit : (r : ℕ) → r < 2 → line_char target frame u byte (10 + (2 * o + r)) ≡ digit_at (byte o) (1 - r)
  char_digit r k =
      char_byte target frame u byte (10 + (2 * o + r)) (omega arith) (omega arith)
      ∙ (λ i. digit_at (byte (which_pair 10 o r k i)) (1 - which_half 10 o r k i))

  pub first_digit : line_char target frame u byte (10 + 2 * o) ≡ digit_at (byte o) 1
  first_digit = let e : 10 + 2 * o ≡ 10 + (2 * o + 0) = omega arith in ap (line_char target frame u byte) e ∙ char_digit 0 (omega arith)

  pub second_digit : line_char target frame u byte (10 + 2 * o + 1) ≡ digit_at (byte o) 0
  second_digit = let e : 10 + 2 * o + 1 ≡ 10 + (2 * o + 1) = omega arith in ap (line_char target frame u byte) e ∙ char_digit 1 (omega arith)
