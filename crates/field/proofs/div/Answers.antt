-- `field::div`, from the contracts of its two calls.
use Rattle.field.specs.Byte.{div}
use Rattle.field.proofs.div.Goals as goal

pub returns : goal.returns
unfolding div
returns c = cc
