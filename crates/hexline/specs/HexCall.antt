-- What the call's tests say, and that what it writes is the line of its definition.
use Rattle.std.specs.Prelude.{◌≡◌, refl, List, [], ◌∷◌, ltb, eqb, length}
use Rattle.std.proofs.Math.Path.{sym, ap}
use Rattle.std.proofs.Common.{◌∙◌, eqb-true, ltb-true}
use Prim.Native.Nat.{ℕ, ◌+◌, ◌*◌, ◌-◌, ◌≤◌, ◌<◌}
use native.Mathlib.Omega.{arith}
use Rattle.std.proofs.Math.ListN.{get_or}
use Rattle.lists.specs.Span.{Span}
use Rattle.lists.specs.Tabulate.{tabulated, tabulate_ext, zeros}
use Rattle.lists.specs.Refusal.{refusal_lowest, grant_yes, grant_no}
use Rattle.numbers.specs.declared.Layout.{Layout}
use Rattle.numbers.specs.Layouts.{Valid, frames, image_length}
use Rattle.numbers.specs.Refused.{validb, valid_of}
use Rattle.place.specs.declared.Place.{Place}
use Rattle.place.specs.Bytes.{spot_of}
use Rattle.place.specs.ByteLaws.{spot-lt}
use Rattle.hex_text.specs.Hex.{line_char}
use Rattle.hex_text.specs.Runs.{line_from}
use Rattle.hexline.specs.HexLine.{unit_byte, hex_refusal, hex_line}

-- what an accepted call knows
pub record Accepted (y : Layout) (image target frame line : ℕ) : Type 0 where
  pub valid : Valid y
  pub whole : image ≡ image_length y
  pub target_in : target < y.p
  pub frame_in : frame < frames y
  pub exact : line ≡ 11 + 2 * y.u

pub accepted_line : (y : Layout) (image target frame line : ℕ) → hex_refusal y image target frame line ≡ 0 → Accepted y image target frame line
unfolding hex_refusal
accepted_line y image target frame line e =
    let p =
    (refusal_lowest 1
    ((validb y, 1) ∷ (eqb image (image_length y), 2) ∷ (ltb target y.p, 4) ∷ (ltb frame (frames y), 4) ∷ (eqb line (11 + 2 * y.u), 5) ∷ [])
    (omega arith) refl).none e in
    record {
      valid = valid_of y p.0;
      whole = eqb-true image (image_length y) p.1.0;
      target_in = ltb-true target y.p p.1.1.0;
      frame_in = ltb-true frame (frames y) p.1.1.1.0;
      exact = eqb-true line (11 + 2 * y.u) p.1.1.1.1.0;
    }

module _ (y : Layout) (image : List ℕ) (target frame : ℕ) where
  abbrev pub here : Place
  here = record { frame = frame; target = target }

  -- a refused call's zeros
  pub refused-line : (n : ℕ) → (hex_refusal y (length image) target frame n ≡ 0 → ⊥) → zeros n ≡ hex_line y image target frame n
  unfolding hex_line
  refused-line n f = tabulate_ext 0 n _ _ (λ i b. sym (grant_no (hex_refusal y (length image) target frame n) _ 0 f))

  -- byte o of the unit stands o bytes after its first
  apart : (o : ℕ) → spot_of y here 0 + o ≡ spot_of y here o
  unfolding spot_of
  apart o = omega arith

  -- the whole unit lies in the image
  pub unit_fits : (n begins : ℕ) → Accepted y (length image) target frame n → begins ≡ spot_of y here 0 → begins + y.u ≤ length image
  unit_fits n begins a e =
      let last = spot-lt y a.valid here (y.u - 1) a.target_in a.frame_in (omega (arith, a.valid.some_bytes)) in
      omega (arith, last, apart (y.u - 1), a.whole, a.valid.some_bytes)

  byte_is : (begins : ℕ) → begins ≡ spot_of y here 0 → (o : ℕ) → get_or image (begins + o) 0 ≡ unit_byte y image target frame o
  unfolding unit_byte
  byte_is begins e o = ap (λ (x : ℕ). get_or image x 0) (ap (λ (x : ℕ). x + o) e ∙ apart o)

  -- an accepted call's line
  pub written-line : (n begins : ℕ) (old new : List ℕ) → hex_refusal y (length image) target frame n ≡ 0 → begins ≡ spot_of y here 0 → length old ≡ n
      → Span (line_from image begins y.u target frame 0) 0 (0 + (11 + 2 * y.u)) old new → new ≡ hex_line y image target frame n
  unfolding hex_line
  written-line n begins old new z e len s =
      tabulated n _ new 0 (s.len ∙ len)
      (λ i b.
      s.done i (omega arith) (omega (arith, (accepted_line y (length image) target frame n z).exact))
      ∙ ap (line_char target frame y.u (λ o. get_or image (begins + o) 0)) (let q : i - 0 ≡ i = omega arith in q)
      ∙ ap (λ (byte : ℕ → ℕ). line_char target frame y.u byte i) (λ j o. byte_is begins e o j)
      ∙ sym (grant_yes (hex_refusal y (length image) target frame n) _ 0 z))
