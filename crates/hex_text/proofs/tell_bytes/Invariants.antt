use Prim.Native.Nat.{◌+◌, ◌*◌}
use Rattle.lists.specs.Span.{Span}
use Rattle.hex_text.specs.Runs.{bytes_from}
use Rattle.hex_text.proofs.tell_bytes.Given as goal

abbrev pub invariant-loop-block : goal.invariant-loop-block
invariant-loop-block l = Span (bytes_from l.text l.from l.begins) l.begins (l.begins + 32 * l.block) l.initial.image l.image
