use Prim.Native.Nat.{◌+◌}
use mathlib.Core.Path.{◌≡◌}
use lib.Dec.{ltb}
use Rattle.lists.specs.Span.{Span}
use Rattle.hex_text.specs.Runs.{digits_right, bytes_from}
use Rattle.hex_text.proofs.read_unit.Given as goal

abbrev pub invariant-loop-o : goal.invariant-loop-o
invariant-loop-o l = (ltb l.worst 16 ≡ digits_right l.text l.from l.o) × Span (bytes_from l.text l.from l.begins) l.begins (l.begins + l.o) l.initial.image l.image
