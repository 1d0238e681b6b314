use Prim.Native.Nat.{◌+◌, ◌*◌}
use Rattle.lists.specs.Span.{Span}
use Rattle.hex_text.specs.Runs.{unit_from}
use Rattle.answers.proofs.spread_hex.Given as goal

abbrev pub invariant-loop-block : goal.invariant-loop-block
invariant-loop-block l = Span (unit_from l.initial.text (l.at + l.size) l.at) l.at (l.at + 2 * (64 * l.block)) l.initial.text l.text
