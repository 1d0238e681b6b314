-- `pool_plan::repair_by` meets its contract: refused, or accepted and run entry after entry.
use Rattle.std.proofs.Common.{refl, arith}
use Rattle.std.proofs.lemmas.Result.{err_from_is_err_and}
use Rattle.lists.proofs.Answering.{refused}
use Rattle.proposal.specs.Plans.{entries}
use Rattle.pool_plan.specs.Answers.{run-refused, run-asked, run-done}
use Rattle.pool_plan.proofs.repair_by.Goals as goal

pub returns-in_err-check_accepted : goal.returns-in_err-check_accepted
returns-in_err-check_accepted c =
    let p = err_from_is_err_and c.from_residual.result c.from_residual.ensures.1 in
    rw (p.1, p.2) (run-refused _ c.args.r _ _ c.in_err-check_accepted.ensures (refused _))

pub run_entries-requires : goal.run_entries-requires
run_entries-requires c = run-asked _ c.args.r _ _ c.in_ok-check_accepted.ensures refl

pub overflow_add-count : goal.overflow_add-count
overflow_add-count c = omega (arith, (run-asked _ c.args.r _ _ c.in_ok-check_accepted.ensures refl).0.valid.few_data)

pub returns : goal.returns
unfolding entries
returns c = run-done _ c.args.r _ _ c.in_ok-check_accepted.ensures refl _ c.run_entries.ensures
