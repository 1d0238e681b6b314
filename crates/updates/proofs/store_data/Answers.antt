-- `updates::store_data`. The loop keeps: the first c data units are stored.
use mathlib.Core.Path.{refl, ◌∙◌}
use native.Mathlib.Omega.{arith}
use Rattle.runs.specs.Run.{paint, paint_turn}
use Rattle.updates.proofs.store_data.Goals as goal

pub loop-c-init : goal.loop-c-init
unfolding paint
loop-c-init c = (omega arith, refl, refl)

pub loop-c-preserved : goal.loop-c-preserved
loop-c-preserved c = (omega arith, c.store_unit.auto.image ∙ c.loop-c.invariant.1, paint_turn _ _ _ _ _ _ _ _ c.loop-c.invariant.2 c.store_unit.ensures)
