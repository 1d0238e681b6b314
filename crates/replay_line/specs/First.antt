-- The first line of a trace. "The first line holds the six layout numbers; where it is malformed, or the pool exceeds 32,768 bytes, 13 is printed and
-- the run ends, and where the numbers are refused, 1 is."
use Rattle.std.specs.Prelude.{Bool, true, List, [], ◌∷◌, ℕ, leb}
use Rattle.lists.specs.Pick.{pick}
use Rattle.lists.specs.Refusal.{refusal_by, grant}
use Rattle.numbers.specs.Layouts.{image_length}
use Rattle.numbers.specs.Refused.{validb, no_layout}
use Rattle.trace.specs.Forms.{is_layout, layout_at}
use Rattle.replay_line.specs.declared.FirstLine.{FirstLine}

-- the numbers of a malformed line mean nothing, and so are not tested; a size means nothing for bad numbers
abbrev pub first_tests : List ℕ → List (Bool × ℕ)
first_tests line =
    (pick (is_layout line) (validb (layout_at line 0)) true, 1) ∷ (is_layout line, 13) ∷ (leb (image_length (layout_at line 0)) 32768, 13) ∷ []

unfoldable pub first_refusal : List ℕ → ℕ
first_refusal line = refusal_by (first_tests line)

unfoldable pub first_of : List ℕ → FirstLine
first_of line =
    grant (first_refusal line) (record { refusal = 0; layout = layout_at line 0; image = image_length (layout_at line 0) })
    (record { refusal = first_refusal line; layout = no_layout; image = 0 })
