-- `hex_text::decimal_or` meets its contract: the arms cut the characters where the ten digits begin and end.
use native.Mathlib.Omega.{arith}
use Rattle.lists.specs.Part.{within-before, within_in, within-after}
use Rattle.hex_text.proofs.decimal_or.Goals as goal

pub returns-in-48-to-57 : goal.returns-in-48-to-57
returns-in-48-to-57 c = simp (within_in 48 10 c.args.c (omega arith) (omega arith))

pub returns-in_default : goal.returns-in_default
returns-in_default c = simp (within-before 48 10 c.args.c (omega arith))

pub returns-in_default-2 : goal.returns-in_default-2
returns-in_default-2 c = simp (within-after 48 10 c.args.c (omega arith))
