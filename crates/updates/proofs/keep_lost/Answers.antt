-- `updates::keep_lost`. The loop keeps: the missing ones of the first c data units are kept.
use mathlib.Core.Path.{refl, ◌∙◌}
use native.Mathlib.Omega.{arith}
use Rattle.runs.specs.Run.{paint, paint_turn}
use Rattle.updates.proofs.keep_lost.Goals as goal

pub loop-c-init : goal.loop-c-init
unfolding paint
loop-c-init c = (omega arith, refl, refl)

pub loop-c-preserved : goal.loop-c-preserved
loop-c-preserved c = (omega arith, c.keep_unit.auto.lost ∙ c.loop-c.invariant.1, paint_turn _ _ _ _ _ _ _ _ c.loop-c.invariant.2 c.keep_unit.ensures)
