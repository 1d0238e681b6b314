-- `updates::put_parities`. The loop keeps: the first i parities are stored. None of them touches the data (`parities_turn`).
use mathlib.Core.Path.{refl, ◌∙◌}
use native.Mathlib.Omega.{arith}
use Rattle.runs.specs.Run.{paint}
use Rattle.updates.specs.Steps.{parities_turn}
use Rattle.updates.proofs.put_parities.Goals as goal

pub loop-i-init : goal.loop-i-init
unfolding paint
loop-i-init c = (omega arith, refl, refl)

pub loop-i-preserved : goal.loop-i-preserved
loop-i-preserved c = (omega arith, c.put_parity.auto.image ∙ c.loop-i.invariant.1, parities_turn _ c.requires.1 _ _ c.requires.2 _ _ c.requires.0 _ _ _ c.loop-i-test.true c.loop-i.invariant.1 c.loop-i.invariant.2 c.put_parity.ensures)
