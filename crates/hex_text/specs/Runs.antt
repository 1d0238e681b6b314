-- A line by its runs, as the code writes and reads them: ten characters, two digits a byte, a newline.
use Rattle.std.specs.Prelude.{Bool, List, ℕ, ◌+◌, ◌*◌, ◌-◌, ◌/◌, ◌%◌, eqb}
use Rattle.lists.specs.Pick.{pick}
use Rattle.lists.specs.Part.{within}
use Rattle.lists.specs.Search.{all}
use Rattle.lists.specs.Tabulate.{at}
use Rattle.hex_text.specs.Hex.{digit_at, line_char}
use Rattle.hex_text.specs.Digit.{is_digit, digit_value, digits_at}
use Rattle.hex_text.specs.Line.{byte_at}

-- a digit's value, 16 for what is none
abbrev pub digit_or16 : ℕ → ℕ
digit_or16 c = pick (is_digit c) (digit_value c) 16

-- .. by its two runs
abbrev pub letter_or16 : ℕ → ℕ
letter_or16 c = pick (within 97 6 c) (c - 87) 16

abbrev pub decimal_or : ℕ → ℕ → ℕ
decimal_or c other = pick (within 48 10 c) (c - 48) other

-- the ten characters before the bytes: they depend neither on the bytes nor on how many there are
abbrev pub head_of : ℕ → ℕ → ℕ → ℕ
head_of target frame j = line_char target frame 0 (λ o. 0) j

-- ---- written: what stands at place x of the text

abbrev pub head_from : ℕ → ℕ → ℕ → ℕ → ℕ
head_from a target frame x = head_of target frame (x - a)

abbrev pub unit_from : List ℕ → ℕ → ℕ → ℕ → ℕ
unit_from image begins from x = digit_at (at image (begins + (x - from) / 2)) (1 - (x - from) % 2)

abbrev pub line_from : List ℕ → ℕ → ℕ → ℕ → ℕ → ℕ → ℕ → ℕ
line_from image begins u target frame a x = line_char target frame u (λ o. at image (begins + o)) (x - a)

-- ---- read: whether a run is right, and what stands at byte x of the image

abbrev pub head_right : List ℕ → ℕ → ℕ → ℕ → Bool
head_right text a target frame = all (λ j. eqb (at text (a + j)) (head_of target frame j)) 10

abbrev pub digits_right : List ℕ → ℕ → ℕ → Bool
digits_right text from u = digits_at text from (2 * u)

abbrev pub bytes_from : List ℕ → ℕ → ℕ → ℕ → ℕ
bytes_from text from begins x = byte_at text (from + 2 * (x - begins))
