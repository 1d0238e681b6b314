-- The answer of a walk's step as numbers, for callers whose language has no enum that holds values: document 01's number, unit and cursor for every
-- case, and whether it "says done".
use Rattle.std.specs.Prelude.{◌≡◌}
use Rattle.std.proofs.Common.{sym, ◌∙◌}
use Rattle.numbers.specs.declared.Layout.{Layout}
use Rattle.layout.specs.declared.Cursor.{Cursor}
use Rattle.layout.specs.declared.Step.{Step}
use Rattle.layout.specs.Walk.{step_of, number_of, says_done, unit_found, cursor_back}
use Rattle.abi.specs.declared.Walked.{Walked}

abbrev pub walked_of : Step → Walked
walked_of s = record { refusal = number_of s; done = says_done s; held = unit_found s; next = cursor_back s }

pub walked_tight : (y : Layout) (at : Cursor) (x x' : Walked) → x ≡ walked_of (step_of y at) → x' ≡ walked_of (step_of y at) → x ≡ x'
walked_tight y at x x' e e' = e ∙ sym e'
