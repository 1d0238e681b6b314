use Prim.Native.Nat.{◌≤◌}
use mathlib.Core.Path.{◌≡◌}
use lib.ListN.{length, drop}
use Rattle.line_cursor.specs.Lines.{line_end}
use Rattle.line_cursor.proofs.past_blocks.Given as goal

abbrev pub invariant-loop-block : goal.invariant-loop-block
invariant-loop-block l = (l.block-iterator.size ≡ l.n) × (l.block-iterator.rest.now ≡ drop l.at l.piece) × (l.at ≤ length l.piece) × (line_end l.piece l.from ≡ line_end l.piece l.at)
