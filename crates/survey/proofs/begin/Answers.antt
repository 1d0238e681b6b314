-- `survey::begin` meets its contract, by those of what it calls.
use Rattle.survey.proofs.begin.Goals as goal

pub returns : goal.returns
returns c =
    record { to_is = c.permutation-to.ensures; n_is = c.plan_whole-plan.ensures.n_is; k_is = c.plan_whole-plan.ensures.k_is; u_is = c.plan_whole-plan.ensures.u_is; right = c.plan_whole-plan.ensures.right }
