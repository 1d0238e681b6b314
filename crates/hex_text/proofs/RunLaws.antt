-- The runs of a line: what each turn of the code's loops adds, and that the runs make the line.
use Rattle.std.specs.Prelude.{◌≡◌, Bool, true, false, List, leb, length}
use Rattle.std.proofs.Math.Path.{sym, ap}
use Rattle.std.proofs.Common.{◌∙◌, subst}
use Rattle.std.proofs.Math.Logic.{⊎_elim}
use Prim.Native.Nat.{ℕ, ◌+◌, ◌*◌, ◌-◌, ◌≤◌, ◌<◌}
use native.Mathlib.Omega.{arith}
use Rattle.std.proofs.Math.Dec.{eqb}
use borrow.Author.Tests.{eq-eqb, eqb-true, le-leb}
use Rattle.lists.specs.Pick.{pick_true, pick-false, both_hold, below_or_not, either_way, clash, not-both_ways}
use Rattle.lists.specs.Part.{within, within_in, within-before, within-after}
use Rattle.lists.specs.Search.{all-at, all_true}
use Rattle.lists.specs.Tabulate.{at}
use Rattle.hex_text.specs.HexChars.{char_end}
use Rattle.hex_text.specs.CharLaws.{head_same}
use Rattle.hex_text.specs.Digit.{is_digit}
use Rattle.hex_text.specs.Line.{char_right, line_right}
use Rattle.hex_text.proofs.LineLaws.{char_right_lem}
use Rattle.hex_text.specs.Runs.{head_of, head_right, digits_right}

module _ (text : List ℕ) (a target frame u : ℕ) where
  head_char : (j : ℕ) → j < 10 → (c : ℕ) → char_right target frame u j c ≡ eqb c (head_of target frame j)
  unfolding char_right
  head_char j h c =
      pick-false (within 10 (2 * u) j) (is_digit c) _ (within-before 10 (2 * u) j h) ∙ ap (eqb c) (head_same target frame u 0 (λ o. 0) (λ o. 0) j h)

  digit_char : (o : ℕ) → o < 2 * u → (c : ℕ) → char_right target frame u (10 + o) c ≡ is_digit c
  unfolding char_right
  digit_char o h c = pick_true (within 10 (2 * u) (10 + o)) (is_digit c) _ (within_in 10 (2 * u) (10 + o) (omega arith) (omega arith))

  newline_char : (c : ℕ) → char_right target frame u (10 + 2 * u) c ≡ eqb c 10
  unfolding char_right
  newline_char c =
      pick-false (within 10 (2 * u) (10 + 2 * u)) (is_digit c) _ (within-after 10 (2 * u) (10 + 2 * u) (omega arith))
      ∙ ap (eqb c) (char_end target frame u (λ o. 0) (10 + 2 * u) (omega arith))

  -- each character of the line, by the run that it is in
  by_run : (P : ℕ → Type 0) → ((j : ℕ) → j < 10 → P j) → ((o : ℕ) → o < 2 * u → P (10 + o)) → P (10 + 2 * u) → (j : ℕ) → j < 11 + 2 * u → P j
  by_run P f g h j b =
      below_or_not j 10 (λ (k : j < 10). f j k)
      (λ (k : 10 ≤ j).
      below_or_not j (10 + 2 * u) (λ (l : j < 10 + 2 * u). let e : 10 + (j - 10) ≡ j = omega arith in subst P e (g (j - 10) (omega arith)))
      (λ (l : 10 + 2 * u ≤ j). let e : 10 + 2 * u ≡ j = omega arith in subst P e h))

  abbrev right_here : ℕ → Bool
  right_here j = char_right target frame u j (at text (a + j))

  place : (o : ℕ) → a + 10 + o ≡ a + (10 + o)
  place o = omega arith

  module _ (room : a + (11 + 2 * u) ≤ length text) where
    pub runs_right : at text (a + 10 + 2 * u) ≡ 10 → head_right text a target frame ≡ true → digits_right text (a + 10) u ≡ line_right text a target frame u
    unfolding line_right
    runs_right n h =
        ⊎_elim
        (λ (t : digits_right text (a + 10) u ≡ true).
        t ∙ sym (both_hold (leb (a + (11 + 2 * u)) (length text)) _ (le-leb (a + (11 + 2 * u)) (length text) room) (all_true right_here (11 + 2 * u)
        (by_run (λ (j : ℕ). right_here j ≡ true) (λ j b. head_char j b _ ∙ all-at (λ k. eqb (at text (a + k)) (head_of target frame k)) 10 h j b)
        (λ o b. digit_char o b _ ∙ ap (λ (x : ℕ). is_digit (at text x)) (sym (place o)) ∙ all-at (λ k. is_digit (at text (a + 10 + k))) (2 * u) t o b)
        (newline_char _ ∙ eq-eqb _ 10 (ap (at text) (sym (place (2 * u))) ∙ n))))))
        (λ (t : digits_right text (a + 10) u ≡ false).
        t ∙ sym (not-both_ways (line_right text a target frame u)
        (λ (r : line_right text a target frame u ≡ true).
        clash (digits_right text (a + 10) u)
        (all_true (λ k. is_digit (at text (a + 10 + k))) (2 * u)
        (λ o b. ap (λ (x : ℕ). is_digit (at text x)) (place o) ∙ sym (digit_char o b _) ∙ char_right_lem text a target frame u r (10 + o) (omega arith))) t)))
        (either_way (digits_right text (a + 10) u))

  -- a wrong character makes the line wrong
  pub newline_wrong : (at text (a + 10 + 2 * u) ≡ 10 → ⊥) → false ≡ line_right text a target frame u
  newline_wrong f =
      sym (not-both_ways (line_right text a target frame u)
      (λ (r : line_right text a target frame u ≡ true).
      f (ap (at text) (place (2 * u)) ∙ eqb-true _ 10 (sym (newline_char _) ∙ char_right_lem text a target frame u r (10 + 2 * u) (omega arith)))))

  pub head_wrong : head_right text a target frame ≡ false → false ≡ line_right text a target frame u
  head_wrong f =
      sym (not-both_ways (line_right text a target frame u)
      (λ (r : line_right text a target frame u ≡ true).
      clash (head_right text a target frame)
      (all_true (λ j. eqb (at text (a + j)) (head_of target frame j)) 10 (λ j b. sym (head_char j b _) ∙ char_right_lem text a target frame u r j (omega arith))) f))
