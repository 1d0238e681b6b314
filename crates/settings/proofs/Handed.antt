-- What a `?` hands on is why an add is refused.
use Rattle.std.specs.Prelude.{◌≡◌, List, ℕ, length, Result, Ok, Err}
use Rattle.std.specs.Result.{is_ok, IsErrAnd}
use Rattle.std.proofs.Common.{refl, sym, ap, ◌∙◌}
use borrow.Author.Tests.{ne_eqb}
use Rattle.std.proofs.Math.Dec.{eqb}
use Rattle.lists.specs.declared.Refusal.{Refusal}
use Rattle.lists.specs.Numbered.{refusal_number, answer_number}
use Rattle.lists.proofs.Answering.{refused}
use Rattle.numbers.specs.declared.Layout.{Layout}
use Rattle.settings.specs.declared.Version.{Version}
use Rattle.settings.specs.Calls.{add_refusal, Adds}
use Rattle.settings.specs.CallLaws.{adds_refused}
use Rattle.settings.specs.Version.{Accepts}
use Rattle.settings.specs.Answers.{added_by}

module _ (version : ℕ) (y : Layout) where
  pub why_as : (room used : ℕ) (r : Result Version Refusal) (e : Refusal) → IsErrAnd r (λ x. x ≡ e) → refusal_number e ≡ add_refusal version y room used
      → Accepts version y room used r
  why_as room used (Ok x) e h p = absurd h
  why_as room used (Err x) e h p = ap refusal_number h ∙ p

  pub adds_err : (buffer : List ℕ) (used : ℕ) (r : Result ℕ Refusal) (e : Refusal) → IsErrAnd r (λ x. x ≡ e)
      → refusal_number e ≡ add_refusal version y (length buffer) used → Adds version y buffer used (added_by used r) buffer
  adds_err buffer used (Ok x) e h p = absurd h
  adds_err buffer used (Err x) e h p = adds_refused version y buffer used (ap refusal_number h ∙ p) (refused x)

-- a call is accepted where its answer has the number 0
pub ok_by_number : {A : Type 0} (r : Result A Refusal) → is_ok r ≡ eqb (answer_number r) 0
ok_by_number (Ok x) = refl
ok_by_number (Err e) = sym (ne_eqb (refusal_number e) 0 (refused e))
