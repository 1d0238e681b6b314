-- `systems::dot`. From the contracts of its calls.
use Rattle.field.specs.Byte.{◌⊕◌}
use Rattle.systems.proofs.dot.Goals as goal

pub returns : goal.returns
unfolding ◌⊕◌
returns c = cc
