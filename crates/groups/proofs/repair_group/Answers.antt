-- `groups::repair_group`. The loop keeps: the missing ones of the first c contents are stored, as rebuilt from the image at entry. A turn is
-- `unit_turn`: what is there is still as it was.
use mathlib.Core.Path.{refl, ◌∙◌}
use native.Mathlib.Omega.{arith}
use Rattle.runs.specs.Run.{paint, paint-end}
use Rattle.groups.specs.Mend.{group_mended, unit_turn}
use Rattle.groups.proofs.repair_group.Goals as goal

pub loop-c-init : goal.loop-c-init
unfolding paint
loop-c-init c = (omega arith, refl, refl)

pub loop-c-preserved : goal.loop-c-preserved
loop-c-preserved c = let i = c.loop-c.invariant in
    (omega arith, c.mend_unit.auto.image ∙ i.1, unit_turn _ _ _ c.requires.0 c.requires.1 _ _ _ (omega arith) i.2 c.mend_unit.ensures)

pub returns : goal.returns
unfolding group_mended
returns c = paint-end _ _ _ _ _ _ _ _ c.loop-c.invariant.2 (omega arith)
