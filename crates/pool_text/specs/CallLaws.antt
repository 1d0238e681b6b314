-- What the tests of the two calls say, and that each way out of the writer is what its promise says.
use Rattle.std.specs.Prelude.{◌≡◌, Bool, List, [], ◌∷◌, eqb, length}
use Rattle.std.proofs.Math.Path.{refl, sym, ap}
use Rattle.std.proofs.Common.{◌∙◌, arith, eqb-true, eq-eqb, ne_eqb}
use Rattle.std.proofs.Math.Bool.{true, false}
use Prim.Native.Nat.{ℕ, zero, suc, ◌<◌}
use Rattle.lists.specs.Tabulate.{zeros}
use Rattle.lists.specs.Refusal.{◌or_else◌, refusal_by, refusal_lowest, refusal_append, or_else_left, or_else_right, grant, grant_yes, grant_no}
use Rattle.numbers.specs.declared.Layout.{Layout}
use Rattle.numbers.specs.Layouts.{Valid, image_length}
use Rattle.numbers.specs.Refused.{validb, valid_of}
use Rattle.pool_text.specs.Text.{text_length, pool_text}
use Rattle.pool_text.specs.Reading.{first_wrong}
use Rattle.pool_text.specs.TextCalls.{image_tests, image_refusal, write_text_refusal, text_written, WritesText, read_text_refusal, wrong_line}

-- what both calls know of layout and image once they have been tested
pub record ImageTested (y : Layout) (len : ℕ) : Type 0 where
  pub valid : Valid y
  pub exact : len ≡ image_length y

pub image_tested : (y : Layout) (len : ℕ) → image_refusal y len ≡ 0 → ImageTested y len
unfolding image_refusal
image_tested y len e =
    let p = (refusal_lowest 1 (image_tests y len []) (omega arith) refl).none e in
    record { valid = valid_of y p.0; exact = eqb-true len (image_length y) p.1.0 }

-- ---- the writer

module _ (y : Layout) (image old : List ℕ) where
  abbrev short_text : ℕ
  short_text = refusal_by ((eqb (length old) (text_length y), 5) ∷ [])

  write_parts : write_text_refusal y (length image) (length old) ≡ image_refusal y (length image) or_else short_text
  unfolding write_text_refusal image_refusal
  write_parts = refusal_append (image_tests y (length image) []) ((eqb (length old) (text_length y), 5) ∷ [])

  refused-text : (n : ℕ) → (n ≡ 0 → ⊥) → n ≡ write_text_refusal y (length image) (length old) → WritesText y image old n (zeros (length old))
  unfolding text_written
  refused-text n f e = record { answer = e; text = sym (grant_no (write_text_refusal y (length image) (length old)) _ _ (λ z. f (e ∙ z))) }

  pub writes_untested : (n : ℕ) → n ≡ image_refusal y (length image) → (n ≡ 0 → ⊥) → WritesText y image old n (zeros (length old))
  writes_untested n e f = refused-text n f (e ∙ sym (or_else_left (image_refusal y (length image)) short_text (λ z. f (e ∙ z))) ∙ sym write_parts)

  module _ (tested : image_refusal y (length image) ≡ 0) where
    pub writes_short : (length old ≡ text_length y → ⊥) → WritesText y image old 5 (zeros (length old))
    unfolding refusal_by ◌or_else◌
    writes_short f =
        refused-text 5 (λ z. absurd (omega (arith, z)))
        (sym (write_parts ∙ or_else_right (image_refusal y (length image)) short_text tested
        ∙ ap (λ t. refusal_by ((t, 5) ∷ [])) (ne_eqb (length old) (text_length y) f)))

    pub writes-whole : length old ≡ text_length y → WritesText y image old 0 (pool_text y image)
    unfolding text_written refusal_by ◌or_else◌
    writes-whole e =
        let z =
        write_parts ∙ or_else_right (image_refusal y (length image)) short_text tested
        ∙ ap (λ t. refusal_by ((t, 5) ∷ [])) (eq-eqb (length old) (text_length y) e) in
        record { answer = sym z; text = sym (grant_yes (write_text_refusal y (length image) (length old)) _ _ z) }

-- ---- the reader

-- the line: with 12 it is the first wrong one, with every other number it is 0
module _ (y : Layout) (len : ℕ) (text : List ℕ) where
  pub line_with_12 : read_text_refusal y len text ≡ 12 → (wrong_line y len text ≡ first_wrong y text) × (0 < first_wrong y text)
  unfolding read_text_refusal wrong_line image_refusal refusal_by ◌or_else◌
  line_with_12 = by (validb y) (eqb len (image_length y)) (first_wrong y text)
    where
      by : (a b : Bool) (w : ℕ) → refusal_by ((a, 1) ∷ (b, 2) ∷ (eqb w 0, 12) ∷ []) ≡ 12
          → (grant (refusal_by ((a, 1) ∷ (b, 2) ∷ [])) w 0 ≡ w) × (0 < w)
      by false b w e = absurd (omega arith)
      by true false w e = absurd (omega arith)
      by true true zero e = absurd (omega arith)
      by true true (suc w) e = (refl, omega arith)

  pub line-without_12 : (read_text_refusal y len text ≡ 12 → ⊥) → wrong_line y len text ≡ 0
  unfolding read_text_refusal wrong_line image_refusal refusal_by ◌or_else◌
  line-without_12 = by (validb y) (eqb len (image_length y)) (first_wrong y text)
    where
      by : (a b : Bool) (w : ℕ) → (refusal_by ((a, 1) ∷ (b, 2) ∷ (eqb w 0, 12) ∷ []) ≡ 12 → ⊥)
          → grant (refusal_by ((a, 1) ∷ (b, 2) ∷ [])) w 0 ≡ 0
      by false b w f = refl
      by true false w f = refl
      by true true zero f = refl
      by true true (suc w) f =
          absurd (f (ap (λ (t : Bool). refusal_by ((true, 1) ∷ (true, 2) ∷ (t, 12) ∷ [])) (ne_eqb (suc w) 0 (λ (e : suc w ≡ 0). absurd (omega arith)))))
