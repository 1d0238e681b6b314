-- What the call of a hex line answers and what it leaves in the line's buffer, for every input.
use Rattle.std.specs.Prelude.{◌≡◌, List, [], ◌∷◌, ℕ, ◌+◌, ◌*◌, ltb, eqb, length, get_or}
use Rattle.lists.specs.Tabulate.{tabulate}
use Rattle.lists.specs.Refusal.{refusal_by, grant}
use Rattle.numbers.specs.declared.Layout.{Layout}
use Rattle.numbers.specs.Layouts.{frames, image_length}
use Rattle.numbers.specs.Refused.{validb}
use Rattle.place.specs.Bytes.{spot_of}
use Rattle.hex_text.specs.Hex.{line_char}

-- byte o of the unit in a frame of a target
unfoldable pub unit_byte : Layout → List ℕ → ℕ → ℕ → ℕ → ℕ
unit_byte y image target frame o = get_or image (spot_of y (record { frame = frame; target = target }) o) 0

-- 1 "a layout number outside the bounds above", 2 "image length wrong", 4 target or frame "outside", 5 a "line buffer not of its exact length"
unfoldable pub hex_refusal : Layout → ℕ → ℕ → ℕ → ℕ → ℕ
hex_refusal y image target frame line =
    refusal_by
    ((validb y, 1) ∷ (eqb image (image_length y), 2) ∷ (ltb target y.p, 4) ∷ (ltb frame (frames y), 4) ∷ (eqb line (11 + 2 * y.u), 5) ∷ [])

-- the line, or where it is refused zeros over the whole length of its buffer
unfoldable pub hex_line : Layout → List ℕ → ℕ → ℕ → ℕ → List ℕ
hex_line y image target frame line =
    tabulate line (λ i. grant (hex_refusal y (length image) target frame line) (line_char target frame y.u (unit_byte y image target frame) i) 0)

-- the call's promise: its answer and the line's buffer; the image is only read
pub record HexLine (y : Layout) (image : List ℕ) (target frame : ℕ) (old : List ℕ) (refusal : ℕ) (new : List ℕ) : Type 0 where
  pub answer : refusal ≡ hex_refusal y (length image) target frame (length old)
  pub line : new ≡ hex_line y image target frame (length old)
