-- The two calls over a pool as text: their tests in the order of the table, and what they promise.
use Rattle.std.specs.Prelude.{◌≡◌, Bool, List, [], ◌∷◌, ℕ, eqb, length}
use Rattle.lists.specs.Tabulate.{zeros}
use Rattle.lists.specs.Refusal.{refusal_by, grant}
use Rattle.numbers.specs.declared.Layout.{Layout}
use Rattle.numbers.specs.Layouts.{image_length}
use Rattle.numbers.specs.Refused.{validb}
use Rattle.pool_text.specs.Text.{text_length, pool_text}
use Rattle.pool_text.specs.Reading.{first_wrong, text_image}

-- what both calls test first: 1 "a layout number outside the bounds above", 2 "image length wrong"
abbrev pub image_tests : Layout → ℕ → List (Bool × ℕ) → List (Bool × ℕ)
image_tests y len rest = (validb y, 1) ∷ (eqb len (image_length y), 2) ∷ rest

unfoldable pub image_refusal : Layout → ℕ → ℕ
image_refusal y len = refusal_by (image_tests y len [])

-- ---- the writer; `room` is the length of the lent text

-- 5 a "line buffer not of its exact length"
unfoldable pub write_text_refusal : Layout → ℕ → ℕ → ℕ
write_text_refusal y len room = refusal_by (image_tests y len ((eqb room (text_length y), 5) ∷ []))

-- "After a refusal: the output of .. a hex line is all zeros over its whole length"
unfoldable pub text_written : Layout → List ℕ → ℕ → List ℕ
text_written y image room = grant (write_text_refusal y (length image) room) (pool_text y image) (zeros room)

-- the writer's promise; the image is only read
pub record WritesText (y : Layout) (image old : List ℕ) (refusal : ℕ) (new : List ℕ) : Type 0 where
  pub answer : refusal ≡ write_text_refusal y (length image) (length old)
  pub text : new ≡ text_written y image (length old)

-- ---- the reader; `len` is the length of the lent image

-- "Anything else is refused with new number 12"
unfoldable pub read_text_refusal : Layout → ℕ → List ℕ → ℕ
read_text_refusal y len text = refusal_by (image_tests y len ((eqb (first_wrong y text) 0, 12) ∷ []))

-- ".. and the number of the first wrong line": 0 where the text is right, or where the call is refused before it is read
unfoldable pub wrong_line : Layout → ℕ → List ℕ → ℕ
wrong_line y len text = grant (image_refusal y len) (first_wrong y text) 0

-- "fills a lent image"; "On refusal the image is zeros"
unfoldable pub image_read : Layout → ℕ → List ℕ → List ℕ
image_read y len text = grant (read_text_refusal y len text) (text_image y text) (zeros len)

-- the reader's promise; the text is only read
pub record ReadsText (y : Layout) (old text : List ℕ) (refusal line : ℕ) (new : List ℕ) : Type 0 where
  pub answer : refusal ≡ read_text_refusal y (length old) text
  pub first_wrong_lem : line ≡ wrong_line y (length old) text
  pub image : new ≡ image_read y (length old) text
