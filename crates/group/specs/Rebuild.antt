-- "Rebuild takes (N+K)·U bytes and a set of missing units (a unit ≥ N+K is 4 ..; one named twice counts once). It uses the N lowest present
-- units, fills the missing ones and changes nothing else." A refused rebuild leaves the buffer as it was.
use Rattle.std.specs.Prelude.{◌≡◌, Bool, List, [], ◌∷◌, ℕ, ◌*◌, eqb, ltb, leb, length, get_or}
use Rattle.lists.specs.Count.{count}
use Rattle.lists.specs.Search.{any, all}
use Rattle.lists.specs.Refusal.{refusal_by, grant}
use Rattle.numbers.specs.declared.Layout.{Layout}
use Rattle.numbers.specs.Layouts.{contents}
use Rattle.numbers.specs.Refused.{validb}
use Rattle.coding.specs.Buffer.{rebuilt_of}

-- unit u is named in the list: a set, so one named twice counts once
abbrev pub named : List ℕ → ℕ → Bool
named missing u = any (λ i. eqb (get_or missing i 0) u) (length missing)

-- each number of the list is below m
abbrev pub each_below : ℕ → List ℕ → Bool
each_below m missing = all (λ i. ltb (get_or missing i 0) m) (length missing)

-- 1: the layout; 4: a unit outside; 5: the buffer's length; 8: "more than K units named missing"
unfoldable pub rebuild_refusal : Layout → List ℕ → ℕ → ℕ
rebuild_refusal y missing len =
    refusal_by (
    (validb y, 1) ∷ (each_below (contents y) missing, 4) ∷ (eqb len (contents y * y.u), 5) ∷ (leb (count (named missing) (contents y)) y.k, 8) ∷ []
    )

-- the buffer after the call
unfoldable pub rebuilt_group : Layout → List ℕ → List ℕ → List ℕ
rebuilt_group y missing buf = grant (rebuild_refusal y missing (length buf)) (rebuilt_of y.n y.k y.u (named missing) buf) buf

-- what the call promises: its answer and every byte of the buffer
pub record Rebuilding (y : Layout) (missing before : List ℕ) (answer : ℕ) (after : List ℕ) : Type 0 where
  pub answers : answer ≡ rebuild_refusal y missing (length before)
  pub bytes : after ≡ rebuilt_group y missing before
