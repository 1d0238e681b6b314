-- "The permutation of a tile": the entries, and the inverse.
use Rattle.std.specs.Prelude.{ℕ, zero, suc, ◌-◌, List, [], ◌∷◌, ◌==◌, slice_set}
use Rattle.lists.specs.Pick.{pick}
use Rattle.lists.specs.Tabulate.{tabulate, at}
use Rattle.tile.specs.Generator.{begin_of, next_of, draw_of}

-- "exchange entries i and j"
unfoldable pub exchange : List ℕ → ℕ → ℕ → List ℕ
exchange l i j = slice_set (slice_set l i (at l j)) j (at l i)

-- "For i = P−1 down to 1: advance, take j .., exchange entries i and j": from i on down
unfoldable pub shuffle_of : ℕ → ℕ → List ℕ → List ℕ
shuffle_of zero state l = l
shuffle_of (suc i) state l = shuffle_of i (next_of state) (exchange l (suc i) (draw_of (next_of state) (suc i)))

-- "Begin with entry t = t."
unfoldable pub own : List ℕ
own = tabulate 64 (λ t. t)

-- "Entry t is the target of column t. The answer is 64 entries ..; those from P on hold their own index."
-- Document 02, order 8: "then the exchanges go as before, each with its own advance"
unfoldable pub permutation_of : ℕ → ℕ → ℕ → ℕ → List ℕ
permutation_of edition p cookie tile = shuffle_of (p - 1) (begin_of edition cookie tile) own

-- the first index at which v stands
unfoldable pub index_of : List ℕ → ℕ → ℕ
index_of [] v = 0
index_of (x ∷ xs) v = pick (x == v) 0 (suc (index_of xs v))

-- "Its inverse is asked for too": the column of each target
unfoldable pub inverse_of : List ℕ → List ℕ
inverse_of l = tabulate 64 (index_of l)
