use Prim.Native.Nat.{◌+◌}
use Rattle.lists.specs.Span.{Span}
use Rattle.hex_text.specs.Runs.{head_from}
use Rattle.hex_text.proofs.write_head.Given as goal

abbrev pub invariant-loop-i : goal.invariant-loop-i
invariant-loop-i l = Span (head_from l.at l.target l.frame) l.at (l.at + l.i) l.initial.text l.text
