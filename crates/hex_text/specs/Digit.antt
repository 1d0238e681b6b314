-- Hex digits read: "lower case".
use Rattle.std.specs.Prelude.{Bool, true, List, ℕ, zero, suc, ◌+◌, ◌*◌, ◌-◌}
use Rattle.lists.specs.Pick.{pick}
use Rattle.lists.specs.Part.{within}
use Rattle.lists.specs.Search.{all}
use Rattle.lists.specs.Tabulate.{at}

-- '0' to '9' are 48 to 57, 'a' to 'f' are 97 to 102
unfoldable pub is_digit : ℕ → Bool
is_digit c = pick (within 48 10 c) true (within 97 6 c)

-- what such a digit counts; anything else counts 0
unfoldable pub digit_value : ℕ → ℕ
digit_value c = pick (within 48 10 c) (c - 48) (pick (within 97 6 c) (c - 87) 0)

-- the n characters of a text from place a on are digits
abbrev pub digits_at : List ℕ → ℕ → ℕ → Bool
digits_at text a n = all (λ k. is_digit (at text (a + k))) n

-- the number that they tell, the first counting most
unfoldable pub number_at : List ℕ → ℕ → ℕ → ℕ
number_at text a zero = 0
number_at text a (suc n) = 16 * number_at text a n + digit_value (at text (a + n))
