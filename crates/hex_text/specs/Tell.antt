-- Two digits taken at once, as the code takes them, and the byte that they tell.
use Rattle.std.specs.Prelude.{◌≡◌, List, ℕ, ◌+◌, ◌*◌, ◌/◌, ◌%◌, ◌<◌, length}
use Rattle.lists.specs.Tabulate.{at}

-- what a digit counts, by its low half: 48 to 57 are '0' to '9', 97 to 102 are 'a' to 'f'
abbrev pub counts : ℕ → ℕ
counts c = c % 16 + c / 64 * 9

-- the characters at place b and the next as one number
abbrev pub pair_at : List ℕ → ℕ → ℕ
pair_at text b = at text b + at text (b + 1) * 256

abbrev pub told_by : ℕ → ℕ
told_by pair = (counts (pair % 256) * 16 + counts (pair / 256)) % 256

-- 32 pairs of a text
pub record Pairs (text : List ℕ) (from : ℕ) (pairs : List ℕ) : Type 0 where
  pub many : length pairs ≡ 32
  pub holds : (j : ℕ) → j < 32 → at pairs j ≡ pair_at text (from + 2 * j)
