-- A line of fields: "Lines of hex", lower case, one space between two fields, a newline after the last.
use Rattle.std.specs.Prelude.{Bool, List, [], ◌∷◌, ◌++◌, map, ℕ, ◌+◌, eqb, length}
use Rattle.lists.specs.Pick.{both}
use Rattle.lists.specs.Tabulate.{at}
use Rattle.hex_text.specs.Hex.{digits_of}
use Rattle.hex_text.specs.Digit.{digits_at, number_at}

-- what follows a field, by the fields that are left: a space (32), or after the last a newline (10)
abbrev pub separator : List ℕ → ℕ
separator [] = 10
separator (w ∷ ws) = 32

-- from place a on the line has fields of as many digits as the list says, each with what follows it, and then it ends
unfoldable pub fields_at : List ℕ → ℕ → List ℕ → Bool
fields_at line a [] = eqb a (length line)
fields_at line a (w ∷ ws) = both (digits_at line a w) (both (eqb (at line (a + w)) (separator ws)) (fields_at line (a + w + 1) ws))

-- the numbers that they tell
abbrev pub numbers_at : List ℕ → ℕ → List ℕ → List ℕ
numbers_at line a [] = []
numbers_at line a (w ∷ ws) = number_at line a w ∷ numbers_at line (a + w + 1) ws

-- ---- written

-- fields one after another, each with what follows it
unfoldable pub field_line : List (List ℕ) → List ℕ
field_line [] = []
field_line (f ∷ fs) = f ++ separator (map length fs) ∷ field_line fs

-- numbers as fields, each of as many digits as the list of widths says; numbers that have no width there are left out
abbrev pub number_fields : List ℕ → List ℕ → List (List ℕ)
number_fields [] xs = []
number_fields (w ∷ ws) [] = []
number_fields (w ∷ ws) (x ∷ xs) = digits_of w x ∷ number_fields ws xs
