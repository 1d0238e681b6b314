-- Document 01's pool as text, computed by the checker: "N=1, K=1, P=3, U=2, T=1, cookie 0, file bytes 41 42 (hex); the whole pool in order". And the
-- first wrong line of spoilt copies: "a missing end counts as a wrong line".
use Rattle.std.specs.Prelude.{◌≡◌, refl, List, [], ◌∷◌, ◌++◌, ℕ, take, set}
use Rattle.lists.specs.Part.{within}
use Rattle.lists.specs.Search.{any, all, lowest}
use Rattle.lists.specs.Tabulate.{tabulate}
use Rattle.numbers.specs.declared.Layout.{Layout}
use Rattle.numbers.specs.Gcd.{gcd, gcd_in, lcm}
use Rattle.numbers.specs.Layouts.{block, rows}
use Rattle.place.specs.Bytes.{spot_of}
use Rattle.hex_text.specs.Hex.{hex_digit, line_char}
use Rattle.hex_text.specs.Digit.{is_digit, digit_value}
use Rattle.hex_text.specs.Line.{char_right, line_right}
use Rattle.hexline.specs.HexLine.{unit_byte}
use Rattle.pool_text.specs.Text.{pool_char, pool_text}
use Rattle.pool_text.specs.Reading.{text_right, first_wrong, text_byte, text_image}

abbrev row : Layout
row = record { n = 1; k = 1; p = 3; u = 2; t = 1; cookie = 0; edition = 1 }

abbrev pool : List ℕ
pool = 0 ∷ 0 ∷ 65 ∷ 66 ∷ 65 ∷ 66 ∷ []

-- "00 000000 0000"
abbrev line1 : List ℕ
line1 = 48 ∷ 48 ∷ 32 ∷ 48 ∷ 48 ∷ 48 ∷ 48 ∷ 48 ∷ 48 ∷ 32 ∷ 48 ∷ 48 ∷ 48 ∷ 48 ∷ 10 ∷ []

-- "01 000000 4142"
abbrev line2 : List ℕ
line2 = 48 ∷ 49 ∷ 32 ∷ 48 ∷ 48 ∷ 48 ∷ 48 ∷ 48 ∷ 48 ∷ 32 ∷ 52 ∷ 49 ∷ 52 ∷ 50 ∷ 10 ∷ []

-- "02 000000 4142"
abbrev line3 : List ℕ
line3 = 48 ∷ 50 ∷ 32 ∷ 48 ∷ 48 ∷ 48 ∷ 48 ∷ 48 ∷ 48 ∷ 32 ∷ 52 ∷ 49 ∷ 52 ∷ 50 ∷ 10 ∷ []

abbrev text : List ℕ
text = line1 ++ (line2 ++ line3)

pub text_examples :
    (pool_text row pool ≡ text)
    × (first_wrong row text ≡ 0)
    × (text_image row text ≡ pool)
    -- nothing at all; the second line left out; the second and third exchanged; the last newline missing; a newline after the end
    × (first_wrong row [] ≡ 1)
    × (first_wrong row (line1 ++ line3) ≡ 2)
    × (first_wrong row (line1 ++ (line3 ++ line2)) ≡ 2)
    × (first_wrong row (take 44 text) ≡ 3)
    × (first_wrong row (text ++ 10 ∷ []) ≡ 4)
    -- of the third line: 'A' for the first digit of a byte, 'g' for the last, a carriage return for the newline
    × (first_wrong row (set text 40 65) ≡ 3)
    × (first_wrong row (set text 43 103) ≡ 3)
    × (first_wrong row (set text 44 13) ≡ 3)
unfolding tabulate gcd gcd_in lcm block rows spot_of hex_digit line_char unit_byte pool_char pool_text within any all lowest is_digit digit_value
    char_right line_right text_right first_wrong text_byte text_image
text_examples = (refl, refl, refl, refl, refl, refl, refl, refl, refl, refl, refl)
