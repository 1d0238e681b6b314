-- An event written as a line of a trace: the lines that `Forms` tells apart.
use Rattle.std.specs.Prelude.{List, [], ◌∷◌, ℕ, ◌≤◌, ◌<◌, length}
use Rattle.hex_text.specs.Hex.{digits_of, hex_of}
use Rattle.trace.specs.Fields.{field_line}
use Rattle.trace.specs.Told.{Told, malformed, told_write, told_fail, told_repair, told_read}

-- the fields of an event: two digits of its kind, and what it says; what is no event has none
unfoldable pub fields_of : Told → List (List ℕ)
fields_of malformed = []
fields_of (told_write offset bytes small) = digits_of 2 1 ∷ digits_of 16 offset ∷ hex_of bytes ∷ []
fields_of (told_fail target) = digits_of 2 2 ∷ digits_of 2 target ∷ []
fields_of told_repair = digits_of 2 3 ∷ []
fields_of (told_read offset size) = digits_of 2 4 ∷ digits_of 16 offset ∷ digits_of 16 size ∷ []

-- the line of an event, with its newline
unfoldable pub line_of : Told → List ℕ
line_of t = field_line (fields_of t)

-- the event has a line: its numbers fit their fields (18446744073709551616 is 16 to the 16), and its bytes a line of 8,300 characters
abbrev pub Tellable : Told → Type 0
Tellable malformed = ⊥
Tellable (told_write offset bytes small) = (offset < 18446744073709551616) × (length bytes ≤ 4140)
Tellable (told_fail target) = target < 256
Tellable told_repair = Unit {0}
Tellable (told_read offset size) = (offset < 18446744073709551616) × (size < 18446744073709551616)
