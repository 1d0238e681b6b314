-- `homes::check_record` meets its contract: the list's test, then the count's.
use mathlib.Core.Path.{refl}
use native.Mathlib.Omega.{arith}
use Rattle.lists.proofs.Answering.{refused, handed_on}
use Rattle.homes.specs.Steps.{refused_by_list, count_above, count-within}
use Rattle.homes.proofs.check_record.Goals as goal

pub returns-in_err-check_failures : goal.returns-in_err-check_failures
returns-in_err-check_failures c =
    handed_on _ c.in_err-check_failures.field-0.0 c.from_residual.ensures.1 (refused_by_list _ c.args.r c.in_err-check_failures.ensures (refused _))

pub returns-then-contents-r : goal.returns-then-contents-r
returns-then-contents-r c = count_above _ c.args.r c.in_ok-check_failures.ensures refl (omega arith)

pub returns : goal.returns
returns c = count-within _ c.args.r c.in_ok-check_failures.ensures refl (omega arith)
