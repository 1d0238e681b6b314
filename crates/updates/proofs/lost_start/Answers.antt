-- `updates::lost_start`. The place of a missing unit is in the scratch, since there are at most three.
use mathlib.Core.Path.{sym}
use native.Mathlib.Omega.{arith}
use Rattle.lists.specs.Pick.{pick_true, pick-false}
use Rattle.plan.specs.Held.{rank_lt}
use Rattle.updates.specs.Sources.{lost_start}
use Rattle.updates.proofs.lost_start.Goals as goal

pub overflow_mul-result : goal.overflow_mul-result
overflow_mul-result c = omega (arith, rank_lt _ c.requires.0 _ (omega (arith, c.requires.1)) c.if-p-j.true)

pub returns-then-p-j : goal.returns-then-p-j
unfolding lost_start
returns-then-p-j c = sym (pick_true _ _ _ c.if-p-j.true)

pub returns : goal.returns
unfolding lost_start
returns c = sym (pick-false _ _ _ c.if-p-j.false)
