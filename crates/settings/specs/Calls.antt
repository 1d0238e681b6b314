-- Adding a record to a row's settings, and reading the newest: their tests in the order of the table, and what they promise.
use Rattle.std.specs.Prelude.{◌≡◌, Bool, List, [], ◌∷◌, ◌++◌, ℕ, zero, suc, ◌+◌, ◌-◌, leb, eqb, ltb, length, get_or, take, drop}
use Rattle.lists.specs.Pick.{pick}
use Rattle.lists.specs.Refusal.{refusal_by, grant}
use Rattle.numbers.specs.declared.Layout.{Layout}
use Rattle.numbers.specs.Refused.{validb, no_layout}
use Rattle.line_cursor.specs.Lines.{lines_of}
use Rattle.settings.specs.declared.Added.{Added}
use Rattle.settings.specs.declared.Settings.{Settings}
use Rattle.settings.specs.Settings.{is_version, knows, setting_line, setting_layout, is_setting}

-- ---- adding; `room` is the length of the lent buffer

-- "1 for bad numbers, a version not 1 or 2, or edition 2 in version 1, 5 for a used length above the buffer, 10 if too little room is left"
abbrev pub add_tests : ℕ → Layout → ℕ → ℕ → List (Bool × ℕ)
add_tests version y room used =
    (validb y, 1) ∷ (is_version version, 1) ∷ (knows version y.edition, 1) ∷ (leb used room, 5) ∷ (leb (length (setting_line version y)) (room - used), 10) ∷ []

unfoldable pub add_refusal : ℕ → Layout → ℕ → ℕ → ℕ
add_refusal version y room used = refusal_by (add_tests version y room used)

-- a refused call hands the used length back as it was given
unfoldable pub added_of : ℕ → Layout → ℕ → ℕ → Added
added_of version y room used =
    record { refusal = add_refusal version y room used; used = grant (add_refusal version y room used) (used + length (setting_line version y)) used }

-- "appends a line after the used length of a lent buffer"; a refused call changes nothing
unfoldable pub add_buffer : ℕ → Layout → List ℕ → ℕ → List ℕ
add_buffer version y buffer used =
    grant (add_refusal version y (length buffer) used) (take used buffer ++ (setting_line version y ++ drop (used + length (setting_line version y)) buffer)) buffer

pub record Adds (version : ℕ) (y : Layout) (buffer : List ℕ) (used : ℕ) (x : Added) (new : List ℕ) : Type 0 where
  pub answer : x ≡ added_of version y (length buffer) used
  pub bytes : new ≡ add_buffer version y buffer used

-- ---- reading

-- the lines of the used part; the last may lack its newline
abbrev pub used_lines : List ℕ → ℕ → List (List ℕ)
used_lines buffer used = lines_of (take used buffer)

abbrev pub later : ℕ → ℕ
later zero = zero
later (suc n) = suc (suc n)

-- "A malformed line anywhere is 12 with its number": the first, counted from 1; 0 where there is none
unfoldable pub first_malformed : List (List ℕ) → ℕ
first_malformed [] = 0
first_malformed (l ∷ ls) = pick (is_setting l) (later (first_malformed ls)) 1

-- "the newest last"
abbrev pub newest_line : List (List ℕ) → List ℕ
newest_line ls = get_or ls (length ls - 1) []

-- "The reader gives the newest record, 5 likewise, or 11 if there is none." A reader is the version that it was written for: one of version 1 "with
-- edition 2 .. refuses with number 17, never a wrong layout"
abbrev pub read_tests : ℕ → List ℕ → ℕ → List (Bool × ℕ)
read_tests reader buffer used =
    (leb used (length buffer), 5) ∷ (ltb 0 (length (used_lines buffer used)), 11) ∷ (eqb (first_malformed (used_lines buffer used)) 0, 12)
    ∷ (knows reader (setting_layout (newest_line (used_lines buffer used))).edition, 17) ∷ []

unfoldable pub read_refusal : ℕ → List ℕ → ℕ → ℕ
read_refusal reader buffer used = refusal_by (read_tests reader buffer used)

-- the number of the malformed line with 12 alone; refused, no layout. The buffer is only read
unfoldable pub settings_of : ℕ → List ℕ → ℕ → Settings
settings_of reader buffer used =
    record {
      refusal = read_refusal reader buffer used;
      line = pick (eqb (read_refusal reader buffer used) 12) (first_malformed (used_lines buffer used)) 0;
      layout = grant (read_refusal reader buffer used) (setting_layout (newest_line (used_lines buffer used))) no_layout;
    }
