-- A line written is right, a right line is written so, and each tells the other's bytes.
use Rattle.std.specs.Prelude.{◌≡◌, false, List, ℕ, ◌+◌, ◌*◌, ◌≤◌, ◌<◌, leb, length}
use Rattle.std.proofs.Math.Path.{sym, ap}
use Rattle.std.proofs.Common.{◌∙◌, arith}
use Rattle.std.proofs.Math.Bool.{true}
use borrow.Author.Tests.{eqb-true, leb-true}
use Rattle.lists.specs.Pick.{pick_true, pick-false, both_true}
use Rattle.lists.specs.Part.{within, within_in, within_cases}
use Rattle.lists.specs.Search.{all, all-at}
use Rattle.lists.specs.Tabulate.{at}
use Rattle.hex_text.specs.Hex.{line_char}
use Rattle.hex_text.specs.CharLaws.{fixed_same, digit_place, first_digit, second_digit}
use Rattle.hex_text.specs.Digit.{is_digit}
use Rattle.hex_text.specs.DigitLaws.{told_high, told-low}
use Rattle.hex_text.specs.Line.{char_right, line_right, byte_at}

module _ (text : List ℕ) (a target frame u : ℕ) (right : line_right text a target frame u ≡ true) where
  pub right_there : a + (11 + 2 * u) ≤ length text
  unfolding line_right
  right_there = leb-true (a + (11 + 2 * u)) (length text) (both_true (leb (a + (11 + 2 * u)) (length text)) _ right).0

  pub char_right_lem : (j : ℕ) → j < 11 + 2 * u → char_right target frame u j (at text (a + j)) ≡ true
  unfolding line_right
  char_right_lem j b =
      all-at (λ k. char_right target frame u k (at text (a + k))) (11 + 2 * u)
      (both_true (leb (a + (11 + 2 * u)) (length text)) (all (λ k. char_right target frame u k (at text (a + k))) (11 + 2 * u)) right).1 j b

  digit_here : (j : ℕ) → 10 ≤ j → j < 10 + 2 * u → is_digit (at text (a + j)) ≡ true
  unfolding char_right
  digit_here j h k = sym (pick_true (within 10 (2 * u) j) _ _ (within_in 10 (2 * u) j h k)) ∙ char_right_lem j (omega arith)

  fixed_here : (j : ℕ) → j < 11 + 2 * u → within 10 (2 * u) j ≡ false → at text (a + j) ≡ line_char target frame u (λ o. 0) j
  unfolding char_right
  fixed_here j b w = eqb-true _ _ (sym (pick-false (within 10 (2 * u) j) _ _ w) ∙ char_right_lem j b)

  first_ok : (o : ℕ) → o < u → is_digit (at text (a + (10 + 2 * o))) ≡ true
  first_ok o h = digit_here (10 + 2 * o) (omega arith) (omega arith)

  second_ok : (o : ℕ) → o < u → is_digit (at text (a + (10 + 2 * o) + 1)) ≡ true
  second_ok o h =
      ap (λ (x : ℕ). is_digit (at text x)) (let q : a + (10 + 2 * o) + 1 ≡ a + (10 + 2 * o + 1) = omega arith in q)
      ∙ digit_here (10 + 2 * o + 1) (omega arith) (omega arith)

  -- the bytes that the line tells
  abbrev told : ℕ → ℕ
  told o = byte_at text (a + (10 + 2 * o))

  -- a right line stands as it is written, for the bytes that it tells
  pub right_written : (j : ℕ) → j < 11 + 2 * u → at text (a + j) ≡ line_char target frame u (λ o. byte_at text (a + (10 + 2 * o))) j
  right_written j b =
      within_cases 10 (2 * u) j
      (λ h k.
      digit_place u j h k
      (λ o l e.
      ap (λ (x : ℕ). at text (a + x)) e ∙ sym (told_high _ _ (first_ok o l) (second_ok o l))
      ∙ sym (first_digit target frame u told o l) ∙ ap (line_char target frame u told) (sym e))
      (λ o l e.
      ap (at text) (let q : a + j ≡ a + (10 + 2 * o) + 1 = omega arith in q) ∙ sym (told-low _ _ (first_ok o l) (second_ok o l))
      ∙ sym (second_digit target frame u told o l) ∙ ap (line_char target frame u told) (sym e)))
      (λ w. fixed_here j b w ∙ fixed_same target frame u (λ o. 0) told j w)
