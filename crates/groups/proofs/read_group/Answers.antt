-- `groups::read_group`. The loop keeps: the first v data units are read.
use mathlib.Core.Path.{refl, ◌∙◌}
use native.Mathlib.Omega.{arith}
use Rattle.groups.specs.Read.{read_none, read_step, read_end}
use Rattle.groups.proofs.read_group.Goals as goal

pub loop-v-init : goal.loop-v-init
loop-v-init c = (omega arith, refl, λ x h. read_none _ _ _ _ _ x)

pub loop-v-preserved : goal.loop-v-preserved
loop-v-preserved c = (omega arith, c.read_unit.auto.out ∙ c.loop-v.invariant.1, read_step _ _ _ _ _ _ _ _ c.loop-v.invariant.1 c.loop-v.invariant.2 c.read_unit.ensures)

pub returns : goal.returns
returns c = read_end _ _ _ _ _ _ _ c.loop-v.invariant.1 c.loop-v.invariant.2 (omega arith)
