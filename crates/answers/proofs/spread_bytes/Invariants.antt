use Prim.Native.Nat.{◌+◌, ◌*◌}
use Rattle.lists.specs.Span.{Span}
use Rattle.hex_text.specs.Runs.{unit_from}
use Rattle.answers.proofs.spread_bytes.Given as goal

abbrev pub invariant-loop-i : goal.invariant-loop-i
invariant-loop-i l = Span (unit_from l.initial.text (l.at + l.size) l.at) l.at (l.at + 2 * l.i) l.initial.text l.text
