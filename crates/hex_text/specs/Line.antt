-- A hex line that stands in a text: whether its characters are right, and the bytes that they tell.
use Rattle.std.specs.Prelude.{Bool, List, ℕ, ◌+◌, ◌*◌, leb, eqb, length}
use Rattle.lists.specs.Pick.{pick, both}
use Rattle.lists.specs.Part.{within}
use Rattle.lists.specs.Search.{all}
use Rattle.lists.specs.Tabulate.{at}
use Rattle.hex_text.specs.Hex.{line_char}
use Rattle.hex_text.specs.Digit.{is_digit, digit_value}

-- c may stand at place j of the line of a frame: a digit of a byte; or of target, frame, spaces and newline what stands there whatever the bytes
unfoldable pub char_right : ℕ → ℕ → ℕ → ℕ → ℕ → Bool
char_right target frame u j c = pick (within 10 (2 * u) j) (is_digit c) (eqb c (line_char target frame u (λ o. 0) j))

-- the text has all 11+2U characters of the line from place a on, and each is right
unfoldable pub line_right : List ℕ → ℕ → ℕ → ℕ → ℕ → Bool
line_right text a target frame u =
    both (leb (a + (11 + 2 * u)) (length text)) (all (λ j. char_right target frame u j (at text (a + j))) (11 + 2 * u))

-- the byte that the digits at place b and the next tell
abbrev pub byte_at : List ℕ → ℕ → ℕ
byte_at text b = 16 * digit_value (at text b) + digit_value (at text (b + 1))
