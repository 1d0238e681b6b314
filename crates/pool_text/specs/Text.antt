-- A pool as text: "what the writer makes for the whole pool, targets rising and frames rising within each, nothing before, between or after".
use Rattle.std.specs.Prelude.{◌≡◌, List, ℕ, ◌+◌, ◌*◌, ◌/◌, ◌%◌, ◌<◌, length}
use Rattle.lists.specs.Tabulate.{at, tabulate}
use Rattle.numbers.specs.declared.Layout.{Layout}
use Rattle.numbers.specs.Layouts.{frames, image_length}
use Rattle.hex_text.specs.Hex.{line_char}
use Rattle.hexline.specs.HexLine.{unit_byte, hex_line}

-- "11+2U bytes" a line; a line for each of the L·T frames of each of the P targets
abbrev pub line_length : Layout → ℕ
line_length y = 11 + 2 * y.u

abbrev pub line_count : Layout → ℕ
line_count y = y.p * frames y

abbrev pub text_length : Layout → ℕ
text_length y = line_length y * line_count y

-- the target and the frame of line i, counted from 0
abbrev pub line_target : Layout → ℕ → ℕ
line_target y i = i / frames y

abbrev pub line_frame : Layout → ℕ → ℕ
line_frame y i = i % frames y

-- character j of line i: that of the hex line of its target and frame
unfoldable pub pool_char : Layout → List ℕ → ℕ → ℕ → ℕ
pool_char y image i j = line_char (line_target y i) (line_frame y i) y.u (unit_byte y image (line_target y i) (line_frame y i)) j

-- the lines one after another: character b of the text
abbrev pub text_char : Layout → List ℕ → ℕ → ℕ
text_char y image b = pool_char y image (b / line_length y) (b % line_length y)

unfoldable pub pool_text : Layout → List ℕ → List ℕ
pool_text y image = tabulate (text_length y) (text_char y image)

-- "what the writer makes for the whole pool": of some image of bytes
pub record Made (y : Layout) (text : List ℕ) : Type 0 where
  pub image : List ℕ
  pub exact : length image ≡ image_length y
  pub bytes : (x : ℕ) → x < length image → at image x < 256
  pub is : text ≡ pool_text y image

-- line i of a text, and the hex line of line i's target and frame
abbrev pub line_of : Layout → List ℕ → ℕ → List ℕ
line_of y text i = tabulate (line_length y) (λ j. at text (line_length y * i + j))

abbrev pub frame_line : Layout → List ℕ → ℕ → List ℕ
frame_line y image i = hex_line y image (line_target y i) (line_frame y i) (line_length y)
