-- `hex_text::letter_or_16` meets its contract: the arms cut the characters where the letters begin and end.
use native.Mathlib.Omega.{arith}
use Rattle.lists.specs.Part.{within-before, within_in, within-after}
use Rattle.hex_text.proofs.letter_or_16.Goals as goal

pub returns-in-97-to-102 : goal.returns-in-97-to-102
returns-in-97-to-102 c = simp (within_in 97 6 c.args.c (omega arith) (omega arith)) (omega arith)

pub returns-in_default : goal.returns-in_default
returns-in_default c = simp (within-before 97 6 c.args.c (omega arith))

pub returns-in_default-2 : goal.returns-in_default-2
returns-in_default-2 c = simp (within-after 97 6 c.args.c (omega arith))
