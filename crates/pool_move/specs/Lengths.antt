-- The two lengths of a move by the number that the old image's tests answer: where they differ, 1 where the layout is bad, else 2.
use Rattle.std.specs.Prelude.{◌≡◌, Bool, true, false, [], ◌∷◌, ℕ, eqb, leb}
use Rattle.std.proofs.Common.{refl, sym, ◌∙◌, arith, eqb-true}
use Rattle.lists.specs.Refusal.{◌or_else◌, refusal_by}
use Rattle.numbers.specs.declared.Layout.{Layout}
use Rattle.numbers.specs.Layouts.{all_contents, image_length}
use Rattle.numbers.specs.Refused.{validb}
use Rattle.homes.specs.declared.Record.{Record}
use Rattle.homes.specs.Records.{record_good}
use Rattle.pool.specs.Refusals.{repair_refusal}
use Rattle.moving.specs.Moving.{move_refusal}

-- of two lengths one is wrong: 1 where the layout is bad, else 2
by_layout : (a b b' c d : Bool) → (b ≡ true → b' ≡ true → ⊥) → (n : ℕ) → n ≡ refusal_by ((a, 1) ∷ (b, 2) ∷ (c, 3) ∷ (d, 3) ∷ [])
    → ((n ≡ 1 → 1 ≡ refusal_by ((a, 1) ∷ (b, 2) ∷ (b', 2) ∷ (c, 3) ∷ (d, 3) ∷ []))
    × ((n ≡ 1 → ⊥) → 2 ≡ refusal_by ((a, 1) ∷ (b, 2) ∷ (b', 2) ∷ (c, 3) ∷ (d, 3) ∷ [])))
unfolding refusal_by ◌or_else◌
by_layout false b b' c d differ n e = (λ h. refl, λ never. absurd (never e))
by_layout true false b' c d differ n e = (λ h. absurd (omega (arith, h, e)), λ never. refl)
by_layout true true false c d differ n e = (λ h. absurd (late c d (sym h ∙ e)), λ never. refl)
  where
    late : (c d : Bool) → 1 ≡ refusal_by ((true, 1) ∷ (true, 2) ∷ (c, 3) ∷ (d, 3) ∷ []) → ⊥
    late false d q = absurd (omega (arith, q))
    late true false q = absurd (omega (arith, q))
    late true true q = absurd (omega (arith, q))
by_layout true true true c d differ n e = absurd (differ refl refl)

module _ (y : Layout) (R : Record) (old new n : ℕ) (e : n ≡ repair_refusal y R old) (differ : new ≡ old → ⊥) where
  both_right : eqb old (image_length y) ≡ true → eqb new (image_length y) ≡ true → ⊥
  both_right a b = differ (eqb-true new (image_length y) b ∙ sym (eqb-true old (image_length y) a))

  by_number : ((n ≡ 1 → 1 ≡ move_refusal y R old new) × ((n ≡ 1 → ⊥) → 2 ≡ move_refusal y R old new))
  unfolding repair_refusal move_refusal
  by_number = by_layout (validb y) (eqb old (image_length y)) (eqb new (image_length y)) (record_good y R) (leb R.waiting (all_contents y)) both_right n e

  pub bad-layout : n ≡ 1 → 1 ≡ move_refusal y R old new
  bad-layout = by_number.0

  pub two_lengths : (n ≡ 1 → ⊥) → 2 ≡ move_refusal y R old new
  two_lengths = by_number.1
