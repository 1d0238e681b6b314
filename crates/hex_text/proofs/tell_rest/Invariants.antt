use Prim.Native.Nat.{◌+◌}
use Rattle.lists.specs.Span.{Span}
use Rattle.hex_text.specs.Runs.{bytes_from}
use Rattle.hex_text.proofs.tell_rest.Given as goal

abbrev pub invariant-loop-o : goal.invariant-loop-o
invariant-loop-o l = Span (bytes_from l.text l.from l.begins) l.begins (l.begins + l.o) l.initial.image l.image
