use mathlib.Core.Path.{◌≡◌}
use Rattle.line_cursor.specs.Lines.{newline_within}
use Rattle.line_cursor.proofs.has_newline.Given as goal

abbrev pub invariant-loop-c : goal.invariant-loop-c
invariant-loop-c l = l.found ≡ newline_within l.bytes l.c-index
