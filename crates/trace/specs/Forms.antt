-- The lines of a recorded trace, each with its newline. "Lines of hex, one event a line: write (offset, bytes), fail (target), repair, read (offset,
-- length). The first line holds the six layout numbers".
--
--     NN KK PP UUUU TTTTTT CCCCCCCCCCCCCCCC        the first line: N, K, P, U, T, cookie
--     01 OOOOOOOOOOOOOOOO BBBB..                   write: offset, and two digits a byte, none or more bytes
--     02 TT                                        fail: target
--     03                                           repair
--     04 OOOOOOOOOOOOOOOO LLLLLLLLLLLLLLLL         read: offset, length
use Rattle.std.specs.Prelude.{Bool, List, [], ◌∷◌, ℕ, ◌+◌, ◌*◌, ◌-◌, ◌/◌, leb, eqb, length}
use Rattle.lists.specs.Pick.{pick, both}
use Rattle.lists.specs.Tabulate.{tabulate}
use Rattle.numbers.specs.declared.Layout.{Layout}
use Rattle.hex_text.specs.Digit.{number_at}
use Rattle.hex_text.specs.Line.{byte_at}
use Rattle.trace.specs.Fields.{fields_at}

-- ---- the first line

-- the fields of N, K, P (2 digits each), U (4), T (6) and the cookie (16)
abbrev pub layout_fields : List ℕ
layout_fields = 2 ∷ 2 ∷ 2 ∷ 4 ∷ 6 ∷ 16 ∷ []

unfoldable pub is_layout : List ℕ → Bool
is_layout line = fields_at line 0 layout_fields

-- the six numbers whose fields begin at place a; document 02, order 8: "Document 01's examples and the replay stay edition 1."
unfoldable pub layout_at : List ℕ → ℕ → Layout
layout_at line a =
    record {
      n = number_at line a 2;
      k = number_at line (a + 3) 2;
      p = number_at line (a + 6) 2;
      u = number_at line (a + 9) 4;
      t = number_at line (a + 14) 6;
      cookie = number_at line (a + 21) 16;
      edition = 1;
    }

-- ---- an event's line

-- how many bytes a write of this length has: 20 characters come before them, a newline after
abbrev pub byte_count : List ℕ → ℕ
byte_count line = (length line - 21) / 2

-- the fields of each kind; of no other kind is there a line
unfoldable pub form_of : ℕ → ℕ → List ℕ
form_of count kind =
    pick (eqb kind 1) (2 ∷ 16 ∷ 2 * count ∷ [])
    (pick (eqb kind 2) (2 ∷ 2 ∷ [])
    (pick (eqb kind 3) (2 ∷ [])
    (pick (eqb kind 4) (2 ∷ 16 ∷ 16 ∷ []) [])))

-- the kind that the first field names, 0 where the line has not that kind's fields. "Lines have at most 8,300 bytes before the newline; a longer one
-- is malformed up to its newline."
unfoldable pub kind_of : List ℕ → ℕ
kind_of line = pick (both (leb (length line) 8301) (fields_at line 0 (form_of (byte_count line) (number_at line 0 2)))) (number_at line 0 2) 0

-- the bytes of a write
unfoldable pub bytes_of : List ℕ → List ℕ
bytes_of line = tabulate (byte_count line) (λ j. byte_at line (20 + 2 * j))
