-- What a first line's call answers, as C has it.
use Rattle.std.specs.Prelude.{◌≡◌, List, ℕ, Result, Ok, Err}
use Rattle.std.specs.Result.{IsErrAnd}
use Rattle.std.proofs.Common.{refl, ap, ◌∙◌}
use Rattle.lists.specs.declared.Refusal.{Refusal}
use Rattle.lists.specs.Numbered.{refusal_number}
use Rattle.lists.specs.Refusal.{refused-answer, accepted_answer}
use Rattle.lists.proofs.Answering.{refused}
use Rattle.numbers.specs.declared.Layout.{Layout}
use Rattle.numbers.specs.Layouts.{image_length}
use Rattle.numbers.specs.Refused.{no_layout}
use Rattle.trace.specs.Forms.{layout_at}
use Rattle.replay_line.specs.declared.Beginning.{Beginning}
use Rattle.replay_line.specs.declared.FirstLine.{FirstLine}
use Rattle.replay_line.specs.First.{first_refusal, first_of}
use Rattle.replay_line.specs.Answers.{first_by}

abbrev answer : ℕ → ℕ → Layout → FirstLine
answer n m y = record { refusal = n; layout = y; image = m }

module _ (line : List ℕ) where
  pub first_refused : (e : Refusal) → refusal_number e ≡ first_refusal line → first_by (Err e) ≡ first_of line
  unfolding first_of
  first_refused e p = refused-answer (λ (n : ℕ). answer n 0 no_layout) _ p (refused e)

  pub first_handed : (r : Result Beginning Refusal) (e : Refusal) → IsErrAnd r (λ x. x ≡ e) → refusal_number e ≡ first_refusal line → first_by r ≡ first_of line
  first_handed (Ok x) e h p = absurd h
  first_handed (Err x) e h p = first_refused x (ap refusal_number h ∙ p)

  pub first_told : {y : Layout} {m : ℕ} → 0 ≡ first_refusal line → y ≡ layout_at line 0 → m ≡ image_length y → answer 0 m y ≡ first_of line
  unfolding first_of
  first_told p e q = (λ i. answer 0 ((q ∙ ap image_length e) i) (e i)) ∙ accepted_answer _ _ p refl
