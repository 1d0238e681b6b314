-- `pool_plan::check_accepted` meets its contract: what every call tests first, then the checker.
use Rattle.std.proofs.Common.{refl, sym}
use Rattle.lists.proofs.Answering.{refused, handed_on}
use Rattle.pool.specs.Asked.{repair_asked}
use Rattle.pool_plan.specs.Answers.{plan_unasked, plan_passes, plan_fails}
use Rattle.pool_plan.proofs.check_accepted.Goals as goal

pub returns-in_err-check_pool : goal.returns-in_err-check_pool
returns-in_err-check_pool c =
    handed_on _ c.in_err-check_pool.field-0.0 c.from_residual.ensures.1 (plan_unasked _ c.args.r _ _ c.in_err-check_pool.ensures (refused _))

pub plan_good-requires : goal.plan_good-requires
plan_good-requires c = let s = repair_asked _ _ _ (sym c.in_ok-check_pool.ensures) in (s.valid, s.good)

pub returns-then-not-plan_good : goal.returns-then-not-plan_good
returns-then-not-plan_good c = plan_fails _ c.args.r _ _ c.in_ok-check_pool.ensures refl _ c.plan_good.ensures c.if-not-plan_good.true

pub returns : goal.returns
returns c = plan_passes _ c.args.r _ _ c.in_ok-check_pool.ensures refl _ c.plan_good.ensures c.if-not-plan_good.false
