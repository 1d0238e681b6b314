-- A number in decimal, and an answer's line: "prints each answer".
use Rattle.std.specs.Prelude.{List, [], ◌∷◌, ◌++◌, ℕ, zero, suc, ◌+◌, ◌-◌, ◌/◌, ◌%◌, ltb}
use Rattle.lists.specs.Refusal.{grant}
use Rattle.lists.specs.Search.{lowest}
use Rattle.lists.specs.Tabulate.{tabulate}

-- n divided by ten i times
unfoldable pub tenths : ℕ → ℕ → ℕ
tenths zero n = n
tenths (suc i) n = tenths i n / 10

-- how many digits n has; a number of 64 bits has at most 20
unfoldable pub places : ℕ → ℕ
places n = suc (lowest (λ i. ltb (tenths i n) 10) 19)

-- '0' is 48
unfoldable pub decimal : ℕ → List ℕ
decimal n = tabulate (places n) (λ j. 48 + tenths (places n - 1 - j) n % 10)

-- the number; of an accepted call also what else it answers; a newline
unfoldable pub printed : ℕ → List ℕ → List ℕ
printed number more = decimal number ++ (grant number more [] ++ 10 ∷ [])
