use Prim.Native.Nat.{◌*◌}
use Rattle.lists.specs.Span.{Span}
use Rattle.pool_text.specs.Text.{line_length, text_char}
use mathlib.Core.Path.{◌≡◌}
use Rattle.pool_text.specs.Here.{Here}
use Rattle.pool_text.proofs.write_lines.Given as goal

abbrev pub invariant-loop-i : goal.invariant-loop-i
invariant-loop-i l = (l.here.i ≡ l.i) × Here l.y l.here × Span (text_char l.y l.image) 0 (line_length l.y * l.here.i) l.initial.text l.text
