-- `field::logs`. The rule of the table, by one test over all 255 logarithms.
use mathlib.Core.Path.{refl}
use Rattle.field.specs.Byte.{double}
use Rattle.field.specs.Tables.{indexed, logs_by_test}
use Rattle.field.proofs.logs.Goals as goal

pub returns : goal.returns
unfolding indexed double
returns c = logs_by_test _ refl
