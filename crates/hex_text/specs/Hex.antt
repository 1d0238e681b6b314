-- "Target as 2 hex digits, space, frame as 6, space, the unit's bytes as 2U, newline; lower case; 11+2U bytes."
use Rattle.std.specs.Prelude.{List, ℕ, ◌+◌, ◌*◌, ◌-◌, ◌/◌, ◌%◌, ◌^◌, ltb, eqb, length}
use Rattle.lists.specs.Pick.{pick}
use Rattle.lists.specs.Tabulate.{at, tabulate}

-- the lower-case digit of a number below 16: '0' is 48, and 'a' is 97
unfoldable pub hex_digit : ℕ → ℕ
hex_digit x = pick (ltb x 10) (48 + x) (87 + x)

-- the digit of x at a place from the right
abbrev pub digit_at : ℕ → ℕ → ℕ
digit_at x place = hex_digit (x / 16 ^ place % 16)

-- character i of the line, where `byte o` is byte o of the unit; a space is 32, a newline 10
unfoldable pub line_char : ℕ → ℕ → ℕ → (ℕ → ℕ) → ℕ → ℕ
line_char target frame u byte i =
    pick (ltb i 2) (digit_at target (1 - i))
    (pick (eqb i 2) 32
    (pick (ltb i 9) (digit_at frame (8 - i))
    (pick (eqb i 9) 32
    (pick (ltb i (10 + 2 * u)) (digit_at (byte ((i - 10) / 2)) (1 - (i - 10) % 2)) 10))))

-- the n lower-case digits of a number, the first counting most
unfoldable pub digits_of : ℕ → ℕ → List ℕ
digits_of n x = tabulate n (λ j. digit_at x (n - 1 - j))

-- bytes as digits, two a byte, the higher first
unfoldable pub hex_of : List ℕ → List ℕ
hex_of bytes = tabulate (2 * length bytes) (λ i. digit_at (at bytes (i / 2)) (1 - i % 2))
