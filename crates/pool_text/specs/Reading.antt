-- What a text says: which of its lines are right, the first that is wrong, and the image that it tells.
use Rattle.std.specs.Prelude.{◌≡◌, ◌⊎◌, Bool, true, false, not, List, ℕ, suc, ◌+◌, ◌*◌, ◌/◌, ◌%◌, ◌<◌, eqb, length}
use Rattle.lists.specs.Pick.{pick, both}
use Rattle.lists.specs.Search.{all, lowest}
use Rattle.lists.specs.Tabulate.{tabulate}
use Rattle.numbers.specs.declared.Layout.{Layout}
use Rattle.numbers.specs.Layouts.{image_length}
use Rattle.hex_text.specs.Line.{line_right, byte_at}
use Rattle.pool_text.specs.Text.{line_length, line_count, text_length, line_target, line_frame}

-- line i of the text is the line of its target and frame, with any bytes
abbrev pub right_at : Layout → List ℕ → ℕ → Bool
right_at y text i = line_right text (line_length y * i) (line_target y i) (line_frame y i) y.u

-- every line is right, and nothing follows
unfoldable pub text_right : Layout → List ℕ → Bool
text_right y text = both (all (right_at y text) (line_count y)) (eqb (length text) (text_length y))

-- "the number of the first wrong line, counted from 1; a missing end counts as a wrong line": what follows the last line is a line too many;
-- 0 where the text is right
unfoldable pub first_wrong : Layout → List ℕ → ℕ
first_wrong y text = pick (text_right y text) 0 (suc (lowest (λ i. not (right_at y text i)) (line_count y)))

-- what makes line n the first wrong one, counted from 1: each before it is right; it is wrong, or all P·L·T are right and something follows them
pub record FirstWrong (y : Layout) (text : List ℕ) (n : ℕ) : Type 0 where
  pub before : (i : ℕ) → suc i < n → right_at y text i ≡ true
  pub here : (i : ℕ) → n ≡ suc i → ((i < line_count y) × (right_at y text i ≡ false)) ⊎ ((i ≡ line_count y) × (text_length y < length text))

-- image byte x is byte x mod U of line x div U: what the two digits there tell
unfoldable pub text_byte : Layout → List ℕ → ℕ → ℕ
text_byte y text x = byte_at text (line_length y * (x / y.u) + (10 + 2 * (x % y.u)))

-- the image that the text tells
unfoldable pub text_image : Layout → List ℕ → List ℕ
text_image y text = tabulate (image_length y) (text_byte y text)
