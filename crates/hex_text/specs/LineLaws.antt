-- A line written is right, a right line is written so, and each tells the other's bytes.
use Rattle.std.specs.Prelude.{◌≡◌, false, List, ℕ, ◌+◌, ◌*◌, ◌-◌, ◌/◌, ◌%◌, ◌^◌, ◌≤◌, ◌<◌, leb, length}
use Rattle.std.proofs.Math.Path.{sym, ap}
use Rattle.std.proofs.Common.{◌∙◌, mod-lt, zero-lt-suc, arith}
use Rattle.std.proofs.Math.Logic.{⊎_elim}
use Rattle.std.proofs.Math.Bool.{true}
use borrow.Author.Tests.{eq-eqb, le-leb}
use Rattle.lists.specs.Pick.{pick_true, pick-false, both_hold, either_way}
use Rattle.lists.specs.Part.{within, within-true, within_cases}
use Rattle.lists.specs.Digits.{div_below}
use Rattle.lists.specs.Search.{all_true}
use Rattle.lists.specs.Tabulate.{at}
use Rattle.hex_text.specs.Hex.{digit_at, line_char}
use Rattle.hex_text.specs.HexChars.{char_byte}
use Rattle.hex_text.specs.CharLaws.{fixed_same, digit_place, first_digit, second_digit}
use Rattle.hex_text.specs.Digit.{is_digit, digit_value}
use Rattle.hex_text.specs.DigitLaws.{digit_is, byte_told}
use Rattle.hex_text.specs.Line.{char_right, line_right, byte_at}

-- the line is told by its u bytes
pub line_ext : (target frame u : ℕ) (byte byte' : ℕ → ℕ) → ((o : ℕ) → o < u → byte o ≡ byte' o) → (j : ℕ)
    → line_char target frame u byte j ≡ line_char target frame u byte' j
line_ext target frame u byte byte' h j =
    within_cases 10 (2 * u) j
    (λ a b.
    char_byte target frame u byte j (omega arith) b
    ∙ ap (λ (x : ℕ). digit_at x (1 - (j - 10) % 2)) (h ((j - 10) / 2) (div_below (j - 10) 2 u (omega arith) (omega arith)))
    ∙ sym (char_byte target frame u byte' j (omega arith) b))
    (λ w. fixed_same target frame u byte byte' j w)

-- ---- a right line

-- ---- a line written

module _ (target frame u : ℕ) (byte : ℕ → ℕ) where
  -- each character that is written is right
  made_right : (j : ℕ) → char_right target frame u j (line_char target frame u byte j) ≡ true
  unfolding char_right
  made_right j =
      ⊎_elim
      (λ (t : within 10 (2 * u) j ≡ true).
      let b = within-true 10 (2 * u) j t in
      pick_true (within 10 (2 * u) j) _ _ t
      ∙ digit_place u j b.0 b.1
      (λ o h e. ap (λ (k : ℕ). is_digit (line_char target frame u byte k)) e ∙ ap is_digit (first_digit target frame u byte o h) ∙ is_digit_lem (byte o) 1)
      (λ o h e. ap (λ (k : ℕ). is_digit (line_char target frame u byte k)) e ∙ ap is_digit (second_digit target frame u byte o h) ∙ is_digit_lem (byte o) 0))
      (λ (t : within 10 (2 * u) j ≡ false).
      pick-false (within 10 (2 * u) j) _ _ t ∙ eq-eqb _ _ (fixed_same target frame u byte (λ o. 0) j t))
      (either_way (within 10 (2 * u) j))
    where
      is_digit_lem : (b place : ℕ) → is_digit (digit_at b place) ≡ true
      is_digit_lem b place = digit_is (b / 16 ^ place % 16) (mod-lt (b / 16 ^ place) (zero-lt-suc 15))

  -- a line that stands in a text as it is written
  module _ (text : List ℕ) (a : ℕ) (stands : (j : ℕ) → j < 11 + 2 * u → at text (a + j) ≡ line_char target frame u byte j) where
    pub written_right : a + (11 + 2 * u) ≤ length text → line_right text a target frame u ≡ true
    unfolding line_right
    written_right room =
        both_hold (leb (a + (11 + 2 * u)) (length text)) _ (le-leb (a + (11 + 2 * u)) (length text) room)
        (all_true (λ j. char_right target frame u j (at text (a + j))) (11 + 2 * u) (λ j b. ap (char_right target frame u j) (stands j b) ∙ made_right j))

    -- tells its bytes
    pub written_byte : (o : ℕ) → o < u → byte o < 256 → byte_at text (a + (10 + 2 * o)) ≡ byte o
    written_byte o h small =
        (λ k. 16 * digit_value (first k) + digit_value (second k)) ∙ byte_told (byte o) small
      where
        first : at text (a + (10 + 2 * o)) ≡ digit_at (byte o) 1
        first = stands (10 + 2 * o) (omega arith) ∙ first_digit target frame u byte o h

        second : at text (a + (10 + 2 * o) + 1) ≡ digit_at (byte o) 0
        second =
            ap (at text) (let q : a + (10 + 2 * o) + 1 ≡ a + (10 + 2 * o + 1) = omega arith in q)
            ∙ stands (10 + 2 * o + 1) (omega arith) ∙ second_digit target frame u byte o h
