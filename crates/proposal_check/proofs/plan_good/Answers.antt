-- `proposal_check::plan_good` meets its contract: the length, the number of entries, and the entries.
use mathlib.Core.Path.{sym}
use native.Mathlib.Omega.{arith}
use Rattle.proposal_check.specs.Checked.{plan_broken, plan_whole, plan_uneven, plan_even}
use Rattle.proposal_check.proofs.plan_good.Goals as goal

pub returns-then-len-size-ne0 : goal.returns-then-len-size-ne0
returns-then-len-size-ne0 c = sym (plan_broken _ _ _ c.if-len-size-ne0.true)

pub returns-then-len-size : goal.returns-then-len-size
returns-then-len-size c = sym (plan_uneven _ _ _ _ c.missing_units-waiting.ensures (λ q. omega (arith, q, c.if-len-size.true)))

pub windows_good-requires : goal.windows_good-requires
windows_good-requires c = let p = c.requires in (p.0, p.1, plan_whole _ _ c.if-len-size-ne0.false)

pub returns : goal.returns
returns c = plan_even _ _ _ _ c.missing_units-waiting.ensures c.if-len-size-ne0.false c.if-len-size.false _ c.windows_good.ensures
