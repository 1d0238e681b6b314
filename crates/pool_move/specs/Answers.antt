-- What the call answers, by the tests that it makes.
use Rattle.std.specs.Prelude.{◌≡◌, refl, Bool, true, false, List, [], ◌∷◌, ℕ, eqb, leb, length, Result, Ok, Err, is_err}
use Rattle.std.proofs.Common.{sym, ap, ◌∙◌, eq-eqb, ne_eqb}
use Rattle.lists.specs.Pick.{equal_or_not}
use Rattle.lists.specs.Tabulate.{zeros}
use Rattle.lists.specs.declared.Refusal.{Refusal}
use Rattle.lists.specs.Numbered.{answer_number}
use Rattle.lists.proofs.Answering.{refused}
use Rattle.lists.specs.Refusal.{◌or_else◌, refusal_by}
use Rattle.numbers.specs.declared.Layout.{Layout}
use Rattle.numbers.specs.Layouts.{Valid, all_contents, image_length}
use Rattle.numbers.specs.Refused.{validb, valid_true}
use Rattle.numbers.specs.Editions.{other_edition}
use Rattle.homes.specs.declared.Record.{Record}
use Rattle.homes.specs.Records.{record_good}
use Rattle.pool.specs.Refusals.{repair_refusal}
use Rattle.pool.specs.Asked.{Sound}
use Rattle.moving.specs.Fresh.{fresh_image}
use Rattle.moving.specs.Moving.{shown_file, move_refusal, Moves}
use Rattle.moving.specs.MoveLaws.{move-refused}
use Rattle.moving.proofs.MoveLaws.{move-asked, move_accepted}

-- the second test of the length says nothing more
twice : (a b c d : Bool) → refusal_by ((a, 1) ∷ (b, 2) ∷ (c, 3) ∷ (d, 3) ∷ []) ≡ refusal_by ((a, 1) ∷ (b, 2) ∷ (b, 2) ∷ (c, 3) ∷ (d, 3) ∷ [])
unfolding refusal_by ◌or_else◌
twice false b c d = refl
twice true false c d = refl
twice true true c d = refl

-- images of one length
pub one-length : (y : Layout) (R : Record) (old new n : ℕ) → n ≡ repair_refusal y R old → new ≡ old → n ≡ move_refusal y R old new
unfolding repair_refusal move_refusal
one-length y R old new n e same =
    e ∙ twice (validb y) (eqb old (image_length y)) (record_good y R) (leb R.waiting (all_contents y)) ∙ ap (λ (m : ℕ). move_refusal y R old m) (sym same)

-- of two lengths one is wrong
pub two_lengths : (y : Layout) (R : Record) (old new : ℕ) → Valid y → (new ≡ old → ⊥) → 2 ≡ move_refusal y R old new
unfolding move_refusal refusal_by ◌or_else◌
two_lengths y R old new v differ =
    equal_or_not old (image_length y)
    (λ (e : old ≡ image_length y).
    sym (simp (valid_true y v, eq-eqb old (image_length y) e, ne_eqb new (image_length y) (λ (q : new ≡ image_length y). differ (q ∙ sym e)))))
    (λ (ne : old ≡ image_length y → ⊥). sym (simp (valid_true y v, ne_eqb old (image_length y) ne)))

-- ---- the call

-- an answer is a refusal, or none
pub is_refused : (answer : Result (Unit {0}) Refusal) → is_err answer ≡ true → answer_number answer ≡ 0 → ⊥
is_refused (Ok x) e = let h : false ≡ true = e in cc
is_refused (Err e) h = refused e

pub is_granted : (answer : Result (Unit {0}) Refusal) → is_err answer ≡ false → answer_number answer ≡ 0
is_granted (Ok x) e = refl
is_granted (Err x) e = let h : true ≡ false = e in cc

module _ (y : Layout) (R : Record) (img : List ℕ) (room n : ℕ) (e : n ≡ move_refusal y R (length img) room) where
  pub moves_asked : n ≡ 0 → Sound y R (length img) × (room ≡ image_length y)
  moves_asked z = move-asked y R (length img) room (sym e ∙ z)

  pub moves_refused : (n ≡ 0 → ⊥) → (new : List ℕ) → new ≡ zeros room → Moves y R img room n new
  moves_refused never new zero = record { answer = e; image = zero ∙ sym (move-refused y R img room (λ z. never (e ∙ z))) }

  pub moves_accepted : n ≡ 0 → (z : Layout) → z ≡ other_edition y → (new : List ℕ) → new ≡ fresh_image z (shown_file y R img) → Moves y R img room 0 new
  moves_accepted none z other new is =
      let granted : move_refusal y R (length img) room ≡ 0 = sym e ∙ none in
      record {
        answer = sym granted;
        image = is ∙ ap (λ (l : Layout). fresh_image l (shown_file y R img)) other ∙ sym (move_accepted y R img room granted);
      }
