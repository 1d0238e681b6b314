-- What the code's parts find: the fields' widths, a text scanned line by line, a refused answer.
use Rattle.std.specs.Prelude.{◌≡◌, List, [], ◌∷◌, ℕ, ◌≤◌, length, drop, Result, MatchResult}
use Rattle.numbers.specs.Refused.{no_layout}
use Rattle.line_cursor.specs.Lines.{lines_of}
use Rattle.settings.specs.declared.Settings.{Settings}
use Rattle.settings.specs.Calls.{first_malformed, newest_line}

abbrev pub setting_widths : List ℕ
setting_widths = 2 ∷ 2 ∷ 2 ∷ 2 ∷ 4 ∷ 6 ∷ 16 ∷ 2 ∷ []

-- the first malformed line, and where no line is malformed the place where the newest begins
pub record Scans (text : List ℕ) (malformed newest : ℕ) : Type 0 where
  pub wrong : malformed ≡ first_malformed (lines_of text)
  pub inside : newest ≤ length text
  pub begins : malformed ≡ 0 → drop newest text ≡ newest_line (lines_of text)

-- where the newest line begins, or the first malformed line
abbrev pub Scanned : List ℕ → Result ℕ ℕ → Type 0
Scanned text r = MatchResult r (Scans text 0) (λ line. (line ≡ 0 → ⊥) × Scans text line 0)

abbrev pub refused_with : ℕ → ℕ → Settings
refused_with refusal line = record { refusal = refusal; line = line; layout = no_layout }
