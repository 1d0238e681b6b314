-- Each way out of the reader is what its promise says.
use Rattle.std.specs.Prelude.{◌≡◌, List, [], ◌∷◌, eqb, length}
use Rattle.std.proofs.Math.Path.{sym, ap}
use Rattle.std.proofs.Common.{◌∙◌, arith, eq-eqb, ne_eqb}
use Prim.Native.Nat.{ℕ}
use Rattle.lists.specs.Tabulate.{zeros}
use Rattle.lists.specs.Refusal.{◌or_else◌, refusal_by, refusal_append, or_else_left, or_else_right, grant_yes, grant_no}
use Rattle.numbers.specs.declared.Layout.{Layout}
use Rattle.pool_text.specs.Reading.{first_wrong, text_image}
use Rattle.pool_text.specs.TextCalls.{image_tests, image_refusal, read_text_refusal, wrong_line, image_read, ReadsText}

module _ (y : Layout) (old text : List ℕ) where
  abbrev wrong_text : ℕ
  wrong_text = refusal_by ((eqb (first_wrong y text) 0, 12) ∷ [])

  read_parts : read_text_refusal y (length old) text ≡ image_refusal y (length old) or_else wrong_text
  unfolding read_text_refusal image_refusal
  read_parts = refusal_append (image_tests y (length old) []) ((eqb (first_wrong y text) 0, 12) ∷ [])

  refused_image : (n : ℕ) → (n ≡ 0 → ⊥) → n ≡ read_text_refusal y (length old) text → zeros (length old) ≡ image_read y (length old) text
  unfolding image_read
  refused_image n f e = sym (grant_no (read_text_refusal y (length old) text) _ _ (λ z. f (e ∙ z)))

  pub reads_untested : (n : ℕ) → n ≡ image_refusal y (length old) → (n ≡ 0 → ⊥) → ReadsText y old text n 0 (zeros (length old))
  unfolding wrong_line
  reads_untested n e f =
      let r = e ∙ sym (or_else_left (image_refusal y (length old)) wrong_text (λ z. f (e ∙ z))) ∙ sym read_parts in
      record { answer = r; first_wrong_lem = sym (grant_no (image_refusal y (length old)) _ 0 (λ z. f (e ∙ z))); image = refused_image n f r }

  module _ (tested : image_refusal y (length old) ≡ 0) where
    the_line : wrong_line y (length old) text ≡ first_wrong y text
    unfolding wrong_line
    the_line = grant_yes (image_refusal y (length old)) _ 0 tested

    pub reads_wrong : (n : ℕ) → n ≡ first_wrong y text → (n ≡ 0 → ⊥) → ReadsText y old text 12 n (zeros (length old))
    unfolding refusal_by ◌or_else◌
    reads_wrong n e f =
        let r =
        read_parts ∙ or_else_right (image_refusal y (length old)) wrong_text tested
        ∙ ap (λ t. refusal_by ((t, 12) ∷ [])) (ne_eqb (first_wrong y text) 0 (λ z. f (e ∙ z))) in
        record { answer = sym r; first_wrong_lem = e ∙ sym the_line; image = refused_image 12 (λ z. absurd (omega (arith, z))) (sym r) }

    pub reads_right : 0 ≡ first_wrong y text → ReadsText y old text 0 0 (text_image y text)
    unfolding image_read refusal_by ◌or_else◌
    reads_right e =
        let z =
        read_parts ∙ or_else_right (image_refusal y (length old)) wrong_text tested
        ∙ ap (λ t. refusal_by ((t, 12) ∷ [])) (eq-eqb (first_wrong y text) 0 (sym e)) in
        record { answer = sym z; first_wrong_lem = e ∙ sym the_line; image = sym (grant_yes (read_text_refusal y (length old) text) _ _ z) }
