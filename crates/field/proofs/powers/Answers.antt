-- `field::powers`. The rule of the table, by one test over all 256 entries.
use mathlib.Core.Path.{refl}
use Rattle.field.specs.Byte.{double}
use Rattle.field.specs.Tables.{doubles, powers_by_test}
use Rattle.field.proofs.powers.Goals as goal

pub returns : goal.returns
unfolding doubles double
returns c = powers_by_test _ refl refl
