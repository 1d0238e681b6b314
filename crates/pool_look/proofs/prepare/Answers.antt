-- `pool_look::prepare` meets its contract: the scratch is cleared first, then holds the rebuilt unit where the content is missing.
use Rattle.std.proofs.Common.{◌≡◌, ℕ, Result, length, sym, ap, ◌∙◌, arith}
use Rattle.std.proofs.lemmas.Result.{err_from_is_err_and}
use Rattle.lists.specs.declared.Refusal.{Refusal}
use Rattle.lists.specs.Numbered.{answer_number}
use Rattle.lists.specs.Refusal.{grant_no, grant_yes}
use Rattle.lists.specs.Tabulate.{length-tabulate}
use Rattle.lists.proofs.Answering.{refused}
use Rattle.pool.specs.Looking.{look_scratch}
use Rattle.pool.specs.Asked.{look_asked}
use Rattle.pool_look.specs.Looks.{content-small, content_in, plan_fits, rebuilt_scratch, blank_scratch}
use Rattle.pool_look.proofs.prepare.Goals as goal

-- the number of an answer, once it is seen what that is
seen : {n : ℕ} {answer is : Result (Unit {0}) Refusal} → answer ≡ is → answer_number answer ≡ n → answer_number is ≡ n
seen w e = sym (ap (λ (x : Result (Unit {0}) Refusal). answer_number x) w) ∙ e

pub returns-in_err-answer : goal.returns-in_err-answer
unfolding look_scratch
returns-in_err-answer c =
    let p = err_from_is_err_and c.from_residual.result c.from_residual.ensures.1 in
    let e = seen c.in_err-answer.was c.check_look-answer.ensures in
    rw (p.1, p.2) (record { answer = e; bytes = c.clear.ensures ∙ sym (grant_no _ _ _ (λ z. refused _ (e ∙ z))) })

pub plan_at-plan-requires : goal.plan_at-plan-requires
plan_at-plan-requires c =
    let a = look_asked _ _ _ _ _ _ (sym (seen c.in_ok-answer.was c.check_look-answer.ensures)) in
    (a.sound, a.group_lt)

pub bounds-plan-c : goal.bounds-plan-c
bounds-plan-c c = content-small _ _ _ _ _ _ (look_asked _ _ _ _ _ _ (sym (seen c.in_ok-answer.was c.check_look-answer.ensures)))

pub read_run-requires : goal.read_run-requires
read_run-requires c =
    let a = look_asked _ _ _ _ _ _ (sym (seen c.in_ok-answer.was c.check_look-answer.ensures)) in
    let s = c.plan_at-plan.ensures in (
      plan_fits _ _ _ _ _ _ a _ s,
      content_in _ _ _ _ _ _ a _ s,
      omega (arith, a.room_is, s.u_is, ap length c.clear.ensures ∙ length-tabulate _ _),
      omega arith,
    )

pub returns-then-plan-c : goal.returns-then-plan-c
unfolding look_scratch
returns-then-plan-c c =
    let none = seen c.in_ok-answer.was c.check_look-answer.ensures in
    record {
      answer = none;
      bytes =
          rebuilt_scratch _ _ _ _ _ _ (look_asked _ _ _ _ _ _ (sym none)) _ c.plan_at-plan.ensures _ _ c.clear.ensures c.if-plan-c.true c.read_run.ensures
          ∙ sym (grant_yes _ _ _ (sym none));
    }

pub returns-else-plan-c : goal.returns-else-plan-c
unfolding look_scratch
returns-else-plan-c c =
    let none = seen c.in_ok-answer.was c.check_look-answer.ensures in
    record {
      answer = none;
      bytes =
          c.clear.ensures
          ∙ blank_scratch _ _ _ _ _ _ (look_asked _ _ _ _ _ _ (sym none)) _ c.plan_at-plan.ensures c.if-plan-c.false
          ∙ sym (grant_yes _ _ _ (sym none));
    }
