-- `checks::check_pool` meets its contract: the layout's test, then those of what is stored.
use mathlib.Core.Path.{refl}
use Rattle.lists.proofs.Answering.{refused, handed_on}
use Rattle.numbers.specs.Refused.{bad-layout, good-layout}
use Rattle.pool.specs.Refusals.{repair_refusal}
use Rattle.checks.proofs.check_pool.Goals as goal

pub returns-in_err-check : goal.returns-in_err-check
unfolding repair_refusal
returns-in_err-check c = handed_on _ c.in_err-check.field-0.0 c.from_residual.ensures.1 (bad-layout _ _ c.in_err-check.ensures (refused _))

pub numbers_of-requires : goal.numbers_of-requires
numbers_of-requires c = good-layout _ c.in_ok-check.ensures refl

pub check_stored-requires : goal.check_stored-requires
check_stored-requires c = (good-layout _ c.in_ok-check.ensures refl, c.numbers_of.ensures)
