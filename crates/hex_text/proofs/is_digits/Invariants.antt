use mathlib.Core.Path.{◌≡◌}
use lib.Dec.{ltb}
use Rattle.hex_text.specs.Digit.{digits_at}
use Rattle.hex_text.proofs.is_digits.Given as goal

abbrev pub invariant-loop-c : goal.invariant-loop-c
invariant-loop-c l = ltb l.largest 16 ≡ digits_at l.text l.from l.c-index
