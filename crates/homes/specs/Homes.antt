-- "Homes under a list", of one group, for any number m of contents and K of spares: `target u` is the target of unit u, and `e` the list.
use Rattle.std.specs.Prelude.{Bool, not, ℕ, zero, suc, ◌+◌, eqb}
use Rattle.lists.specs.Pick.{pick, both}
use Rattle.lists.specs.Search.{any, lowest}
use Rattle.homes.specs.Listed.{listed}

-- ".. that is no content's home and lies on none of the targets listed": spare i, where contents have the homes h, and j targets are listed
unfoldable pub free : (ℕ → ℕ) → ℕ → (ℕ → ℕ) → ℕ → (ℕ → ℕ) → ℕ → Bool
free target m e j h i = both (not (any (λ c. eqb (h c) (m + i)) m)) (not (listed e j (target (m + i))))

module _ (target : ℕ → ℕ) (m K : ℕ) (e : ℕ → ℕ) where
  -- "a content whose home is there moves to the lowest spare of its group that is no content's home and lies on none of the targets listed up
  -- to and including this one": entry j of the list is this one
  unfoldable pub move : ℕ → (ℕ → ℕ) → ℕ → ℕ
  move j h c = pick (eqb (target (h c)) (e j)) (m + lowest (free target m e (suc j) h) K) (h c)

  -- "each content starts at its own place; for each listed target in turn, .."
  unfoldable pub homes : ℕ → ℕ → ℕ
  homes zero = λ c. c
  homes (suc j) = move j (homes j)
