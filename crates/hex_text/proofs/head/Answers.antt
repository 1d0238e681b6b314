-- `hex_text::head` meets its contract: each character is the one at its own place.
use Prim.Native.Nat.{ℕ, ◌%◌, ◌/◌}
use mathlib.Core.Path.{◌≡◌, sym, ap, ◌∙◌}
use mathlib.Core.List.{[], ◌∷◌}
use native.Mathlib.Nat.{div-one}
use Rattle.lists.specs.Tabulate.{tabulate}
use Rattle.hex_text.specs.Hex.{hex_digit, line_char}
use Rattle.hex_text.proofs.head.Goals as goal

last : (x : ℕ) → hex_digit (x % 16) ≡ hex_digit (x / 1 % 16)
last x = ap (λ (y : ℕ). hex_digit (y % 16)) (sym (div-one x))

pub returns : goal.returns
unfolding line_char tabulate
returns c = λ i.
    c.last_digit.ensures i ∷ (c.last_digit-2.ensures ∙ last c.args.target) i ∷ 32
    ∷ c.last_digit-3.ensures i ∷ c.last_digit-4.ensures i ∷ c.last_digit-5.ensures i
    ∷ c.last_digit-6.ensures i ∷ c.last_digit-7.ensures i ∷ (c.last_digit-8.ensures ∙ last c.args.frame) i ∷ 32 ∷ []
