-- A change by its plan: what is answered and what is left, where it is refused and where it is run.
use Rattle.std.specs.Prelude.{◌≡◌, ℕ, List, length, Result, Ok, Err}
use Rattle.std.specs.Result.{IsErrAnd}
use Rattle.std.proofs.Common.{sym, ap, subst, ◌∙◌}
use Rattle.lists.specs.declared.Refusal.{Refusal}
use Rattle.entries.specs.declared.Entry.{Entry}
use Rattle.entries.specs.declared.Changed.{Changed}
use Rattle.entries.specs.declared.Plan.{Plan}
use Rattle.entries.specs.Answered.{changed_of}
use Rattle.entries.specs.Plans.{outcome_of}
use Rattle.entries.specs.Roll.{rolled, rolled_by, IsInside, AnyInside}

-- of a change of the first n records of ys by a plan, which answers `done` and leaves zs
module _ (n : ℕ) (ys zs : List Entry) (done : Changed) {w plan : Result Plan Refusal} (is : w ≡ plan) where
  pub refused_answer : (answer : Result ℕ Refusal) {e : Refusal} → outcome_of n plan ≡ done → w ≡ Err e → IsErrAnd answer (λ y. y ≡ e)
      → changed_of n answer ≡ done
  refused_answer (Ok x) o h g = absurd g
  refused_answer (Err y) o h g =
      ap {A = Refusal} (λ z. changed_of n (Err z)) g ∙ ap (outcome_of n) (sym h ∙ is) ∙ o

  pub refused_slots : {e : Refusal} → rolled_by plan ys ≡ zs → w ≡ Err e → ys ≡ zs
  refused_slots l h = ap (λ (v : Result Plan Refusal). rolled_by v ys) (sym h ∙ is) ∙ l

  pub run_inside : {p : Plan} → AnyInside plan (length ys) → w ≡ Ok p → IsInside p (length ys)
  run_inside a h = subst (λ (v : Result Plan Refusal). AnyInside v (length ys)) (sym is ∙ h) a

  pub run_answer : {p : Plan} → outcome_of n plan ≡ done → w ≡ Ok p → ◌≡◌ {A = Changed} (record { refusal = 0; count = p.total }) done
  run_answer o h = ap (outcome_of n) (sym h ∙ is) ∙ o

  pub run_slots : {p : Plan} {us : List Entry} → rolled_by plan ys ≡ zs → w ≡ Ok p → us ≡ rolled p.way p.from p.end p.first ys → us ≡ zs
  run_slots l h e = e ∙ ap (λ (v : Result Plan Refusal). rolled_by v ys) (sym h ∙ is) ∙ l
