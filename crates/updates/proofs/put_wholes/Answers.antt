-- `updates::put_wholes`. The loop keeps: the first i parities are stored.
use mathlib.Core.Path.{refl, ◌∙◌}
use native.Mathlib.Omega.{arith}
use Rattle.runs.specs.Run.{paint, paint_turn}
use Rattle.updates.proofs.put_wholes.Goals as goal

pub loop-i-init : goal.loop-i-init
unfolding paint
loop-i-init c = (omega arith, refl, refl)

pub loop-i-preserved : goal.loop-i-preserved
loop-i-preserved c = (omega arith, c.put_whole.auto.image ∙ c.loop-i.invariant.1, paint_turn _ _ _ _ _ _ _ _ c.loop-i.invariant.2 c.put_whole.ensures)
