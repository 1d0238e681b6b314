-- `pool_count::panel` meets its contract: what every call tests first, then the record's numbers.
use Rattle.std.proofs.Common.{refl}
use Rattle.std.proofs.lemmas.Result.{err_from_is_err_and}
use Rattle.lists.proofs.Answering.{refused}
use Rattle.pool_count.specs.Answers.{panel_refused, panel_shown}
use Rattle.pool_count.proofs.panel.Goals as goal

pub returns-in_err-check_pool : goal.returns-in_err-check_pool
returns-in_err-check_pool c =
    let p = err_from_is_err_and c.from_residual.result c.from_residual.ensures.1 in
    rw (p.1, p.2) (panel_refused _ c.args.r _ c.in_err-check_pool.ensures (refused _))

pub returns : goal.returns
returns c = panel_shown _ c.args.r _ c.in_ok-check_pool.ensures refl
