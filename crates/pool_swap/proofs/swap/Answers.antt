-- `pool_swap::swap` meets its contract: refused, or accepted and its contents moved group after group.
use Rattle.std.proofs.Common.{refl, sym}
use Rattle.std.proofs.lemmas.Result.{err_from_is_err_and}
use Rattle.lists.proofs.Answering.{refused}
use Rattle.swapping.proofs.SwapLaws.{swap_asked}
use Rattle.pool_swap.specs.Answers.{answers_refused, answers_swapped}
use Rattle.pool_swap.proofs.swap.Goals as goal

pub returns-in_err-check_swap : goal.returns-in_err-check_swap
returns-in_err-check_swap c =
    let p = err_from_is_err_and c.from_residual.result c.from_residual.ensures.1 in
    rw (p.1, p.2) (answers_refused _ c.args.r _ _ _ c.in_err-check_swap.ensures (refused _))

pub swap_groups-requires : goal.swap_groups-requires
swap_groups-requires c = swap_asked _ c.args.r _ _ (sym c.in_ok-check_swap.ensures)

pub returns : goal.returns
returns c = answers_swapped _ c.args.r _ _ _ c.in_ok-check_swap.ensures refl _ _ c.swap_groups.ensures.0 c.swap_groups.ensures.1
