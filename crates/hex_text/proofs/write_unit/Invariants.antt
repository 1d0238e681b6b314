use Prim.Native.Nat.{◌+◌, ◌*◌}
use Rattle.lists.specs.Span.{Span}
use Rattle.hex_text.specs.Runs.{unit_from}
use Rattle.hex_text.proofs.write_unit.Given as goal

abbrev pub invariant-loop-o : goal.invariant-loop-o
invariant-loop-o l = Span (unit_from l.image l.begins l.from) l.from (l.from + 2 * l.o) l.initial.text l.text
