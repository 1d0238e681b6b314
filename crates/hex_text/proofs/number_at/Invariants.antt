use mathlib.Core.Path.{◌≡◌}
use Rattle.hex_text.specs.Digit.{number_at}
use Rattle.hex_text.proofs.number_at.Given as goal

abbrev pub invariant-loop-c : goal.invariant-loop-c
invariant-loop-c l = l.number ≡ number_at l.text l.from l.c-index
