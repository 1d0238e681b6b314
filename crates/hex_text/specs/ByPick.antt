-- The largest value met, chosen by a comparison: the laws of `RunLaws` and `NumberLaws` under the same names, for a loop that picks.
use Rattle.std.specs.Prelude.{◌≡◌, false, List, ltb}
use Rattle.std.proofs.Math.Path.{sym, ap}
use Rattle.std.proofs.Common.{ap₂, ◌∙◌}
use Prim.Native.Nat.{ℕ, suc, ◌+◌, ◌*◌, ◌≤◌, ◌<◌}
use native.Mathlib.Omega.{arith}
use borrow.Author.Tests.{lt-ltb, le-ltb}
use Rattle.lists.specs.Pick.{pick, pick_true, pick-false, both, both_hold, below_or_not}
use Rattle.lists.specs.Search.{all}
use Rattle.lists.specs.Tabulate.{at}
use Rattle.hex_text.specs.Digit.{digits_at}
use Rattle.hex_text.specs.Runs.{digit_or16, digits_right}
use Rattle.hex_text.specs.RunLaws.{digit_says, both_more}

-- the larger of two is below a bound where both are
pub larger_below : (a b m : ℕ) → ltb (pick (ltb a b) b a) m ≡ both (ltb b m) (ltb a m)
larger_below a b m =
    below_or_not a b
    (λ (h : a < b).
    ap (λ (x : ℕ). ltb x m) (pick_true (ltb a b) b a (lt-ltb a b h))
    ∙ below_or_not b m (λ (k : b < m). lt-ltb b m k ∙ sym (both_hold (ltb b m) (ltb a m) (lt-ltb b m k) (lt-ltb a m (omega arith))))
    (λ (k : m ≤ b). le-ltb b m k ∙ sym (pick-false (ltb b m) (ltb a m) false (le-ltb b m k))))
    (λ (h : b ≤ a).
    ap (λ (x : ℕ). ltb x m) (pick-false (ltb a b) b a (le-ltb a b h))
    ∙ below_or_not b m (λ (k : b < m). sym (pick_true (ltb b m) (ltb a m) false (lt-ltb b m k)))
    (λ (k : m ≤ b). le-ltb a m (omega arith) ∙ sym (pick-false (ltb b m) (ltb a m) false (le-ltb b m k))))

-- one digit more, by the largest value met
pub digit_turn : (text : List ℕ) (a i worst : ℕ) {c d : ℕ} → c ≡ digit_or16 (at text (a + i)) → d ≡ pick (ltb worst c) c worst
    → ltb worst 16 ≡ digits_at text a i → ltb d 16 ≡ digits_at text a (i + 1)
unfolding all
digit_turn text a i worst {c} {d} ec ed e =
    ap (λ (x : ℕ). ltb x 16) ed ∙ larger_below worst c 16 ∙ ap₂ both (ap (λ (x : ℕ). ltb x 16) ec ∙ digit_says _) e
    ∙ ap (digits_at text a) (let q : suc i ≡ i + 1 = omega arith in q)

module _ (text : List ℕ) (from o : ℕ) where
  -- the largest value met, and what it says
  pub digits_turn : (worst : ℕ) {a b c d : ℕ} → a ≡ digit_or16 (at text (from + 2 * o)) → b ≡ digit_or16 (at text (from + 2 * o + 1))
      → c ≡ pick (ltb worst a) a worst → d ≡ pick (ltb c b) b c → ltb worst 16 ≡ digits_right text from o → ltb d 16 ≡ digits_right text from (o + 1)
  digits_turn worst {a} {b} {c} {d} ea eb ec ed e =
      ap (λ (x : ℕ). ltb x 16) ed ∙ larger_below c b 16
      ∙ ap₂ both (ap (λ (x : ℕ). ltb x 16) eb ∙ digit_says _)
      (ap (λ (x : ℕ). ltb x 16) ec ∙ larger_below worst a 16 ∙ ap₂ both (ap (λ (x : ℕ). ltb x 16) ea ∙ digit_says _) e)
      ∙ sym (both_more text from o)
