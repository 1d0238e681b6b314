-- The hex line: lines tell target, frame and bytes apart; a refused one is all zeros; the call answers the lowest refusal number that
-- applies; and any two outcomes its promise allows are the same.
use Rattle.std.specs.Prelude.{◌≡◌, refl, Bool, List, [], ◌∷◌, ℕ, ◌+◌, ◌*◌, ◌<◌, ltb, eqb, length, get_or}
use Rattle.std.proofs.Common.{sym, ◌∙◌, arith}
use Rattle.std.proofs.Math.Path.{subst⁻¹}
use Rattle.lists.specs.Tabulate.{zeros}
use Rattle.lists.specs.Refusal.{LowestThatApplies, refusal_lowest}
use Rattle.numbers.specs.declared.Layout.{Layout}
use Rattle.numbers.specs.Layouts.{frames, image_length}
use Rattle.numbers.specs.Refused.{validb}
use Rattle.hexline.specs.HexLine.{unit_byte, hex_refusal, hex_line, HexLine}
use Rattle.hexline.specs.HexCall as C
use Rattle.hexline.specs.HexLaws.{Told, lines_apart}
use Rattle.promises.specs.Tight.{same}

module _ (y : Layout) (image : List ℕ) (target frame : ℕ) where
  -- two accepted lines of one layout that are equal have the same target, frame and unit bytes; images are lists of bytes
  pub hex_lines_apart : (image' : List ℕ) (target' frame' n : ℕ) → ((x : ℕ) → get_or image x 0 < 256) → ((x : ℕ) → get_or image' x 0 < 256)
      → hex_refusal y (length image) target frame n ≡ 0 → hex_refusal y (length image') target' frame' n ≡ 0
      → hex_line y image target frame n ≡ hex_line y image' target' frame' n
      → Told y.u target frame target' frame' (unit_byte y image target frame) (unit_byte y image' target' frame')
  hex_lines_apart image' target' frame' n = lines_apart y image image' target frame target' frame' n

  -- an accepted line has exactly 11+2U bytes
  pub hex_line_exact : (n : ℕ) → hex_refusal y (length image) target frame n ≡ 0 → n ≡ 11 + 2 * y.u
  hex_line_exact n e = (C.accepted_line y (length image) target frame n e).exact

  module _ (old : List ℕ) (r : ℕ) (new : List ℕ) (p : HexLine y image target frame old r new) where
    -- a refused line is zeros over the whole length of its buffer
    pub hex_line-refused : (r ≡ 0 → ⊥) → new ≡ zeros (length old)
    hex_line-refused never = p.line ∙ sym (C.refused-line y image target frame (length old) (λ z. never (p.answer ∙ z)))

    -- the number that the call answers is the lowest that applies
    abbrev hex_table : List (Bool × ℕ)
    hex_table =
        (validb y, 1) ∷ (eqb (length image) (image_length y), 2) ∷ (ltb target y.p, 4) ∷ (ltb frame (frames y), 4) ∷ (eqb (length old) (11 + 2 * y.u), 5) ∷ []

    pub hex_line-lowest : LowestThatApplies hex_table r
    unfolding hex_refusal
    hex_line-lowest = subst⁻¹ (LowestThatApplies hex_table) p.answer (refusal_lowest 1 hex_table (omega arith) refl)

  pub hex_line_tight : (old : List ℕ) (r r' : ℕ) (new new' : List ℕ) → HexLine y image target frame old r new
      → HexLine y image target frame old r' new'
      → (r ≡ r') × (new ≡ new')
  hex_line_tight old r r' new new' p q = (same p.answer q.answer, same p.line q.line)
