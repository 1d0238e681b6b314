-- The tests of a first line, as the code makes them.
use Rattle.std.specs.Prelude.{◌≡◌, refl, Bool, false, ℕ, ◌≤◌, ◌<◌, leb, length}
use Rattle.std.proofs.Common.{sym, ◌∙◌, arith}
use Rattle.std.proofs.Math.Path.{ap, subst}
use Rattle.std.proofs.Math.Bool.{true}
use mathlib.Core.List.{List, [], ◌∷◌}
use borrow.Author.Tests.{le-leb, lt-leb, leb-true}
use Rattle.lists.specs.Pick.{pick}
use Rattle.lists.specs.Refusal.{◌or_else◌, refusal_by, refusal_lowest}
use Rattle.numbers.specs.declared.Layout.{Layout}
use Rattle.numbers.specs.Layouts.{Valid, image_length}
use Rattle.numbers.specs.Refused.{validb, layout_refusal, valid_of, valid_true, bad-layout}
use Rattle.trace.specs.FieldLaws.{fields_length}
use Rattle.trace.specs.Forms.{layout_fields, is_layout, layout_at}
use Rattle.replay_line.specs.First.{first_tests, first_refusal}

module _ (line : List ℕ) where
  pub layout-length : is_layout line ≡ true → length line ≡ 38
  unfolding is_layout
  layout-length t = fields_length line 0 layout_fields t

  pub first_malformed_lem : is_layout line ≡ false → 13 ≡ first_refusal line
  unfolding first_refusal refusal_by ◌or_else◌
  first_malformed_lem t = simp t

  module _ (t : is_layout line ≡ true) {y : Layout} (e : y ≡ layout_at line 0) where
    pub first_bad : {n : ℕ} → n ≡ layout_refusal y → (n ≡ 0 → ⊥) → n ≡ first_refusal line
    unfolding first_refusal
    first_bad q f =
        bad-layout (layout_at line 0) rest (q ∙ ap layout_refusal e) f ∙ ap (λ (b : Bool). refusal_by ((pick b (validb (layout_at line 0)) true, 1) ∷ rest)) (sym t)
      where
        rest : List (Bool × ℕ)
        rest = (is_layout line, 13) ∷ (leb (image_length (layout_at line 0)) 32768, 13) ∷ []

    pub first_large : {m : ℕ} → Valid y → m ≡ image_length y → 32768 < m → 13 ≡ first_refusal line
    unfolding first_refusal refusal_by ◌or_else◌
    first_large v q h =
        let many = subst (λ (z : Layout). 32768 < image_length z) e (subst (λ (k : ℕ). 32768 < k) q h) in
        simp (t, valid_true (layout_at line 0) (subst Valid e v), lt-leb (image_length (layout_at line 0)) 32768 many)

    pub first_good : {m : ℕ} → Valid y → m ≡ image_length y → m ≤ 32768 → 0 ≡ first_refusal line
    unfolding first_refusal refusal_by ◌or_else◌
    first_good v q h =
        let few = subst (λ (z : Layout). image_length z ≤ 32768) e (subst (λ (k : ℕ). k ≤ 32768) q h) in
        simp (t, valid_true (layout_at line 0) (subst Valid e v), le-leb (image_length (layout_at line 0)) 32768 few)

  -- what is known of an accepted line
  pub record FirstAsked : Type 0 where
    pub formed : is_layout line ≡ true
    pub valid : Valid (layout_at line 0)
    pub small : image_length (layout_at line 0) ≤ 32768

  pub first_asked : first_refusal line ≡ 0 → FirstAsked
  unfolding first_refusal
  first_asked e =
      let p = (refusal_lowest 1 (first_tests line) (omega arith) refl).none e in
      let t = p.1.0 in
      record {
        formed = t;
        valid = valid_of (layout_at line 0) (ap (λ (b : Bool). pick b (validb (layout_at line 0)) true) (sym t) ∙ p.0);
        small = leb-true (image_length (layout_at line 0)) 32768 p.1.1.0;
      }
