-- `pool_repair::repair` meets its contract: refused, or accepted and repaired group after group.
use Rattle.std.proofs.Common.{refl}
use Rattle.std.proofs.lemmas.Result.{err_from_is_err_and}
use Rattle.lists.proofs.Answering.{refused}
use Rattle.pool_repair.specs.MendingLaws.{repair_refused, repair_sound, repair_accepted}
use Rattle.pool_repair.proofs.repair.Goals as goal

pub returns-in_err-check_pool : goal.returns-in_err-check_pool
returns-in_err-check_pool c =
    let p = err_from_is_err_and c.from_residual.result c.from_residual.ensures.1 in
    rw (p.1, p.2) (repair_refused _ c.args.r _ _ c.in_err-check_pool.ensures (refused _))

pub mend_groups-count-requires : goal.mend_groups-count-requires
mend_groups-count-requires c = repair_sound _ c.args.r _ _ c.in_ok-check_pool.ensures refl

pub returns : goal.returns
returns c = repair_accepted _ c.args.r _ _ c.in_ok-check_pool.ensures refl _ _ c.mend_groups-count.ensures.0 c.mend_groups-count.ensures.1
