-- What a write lays in a column hangs on that column alone: the sweep's condition.
use Rattle.std.specs.Prelude.{◌≡◌, refl, List, ℕ, ◌+◌, ◌<◌, length, get_or}
use Rattle.plan.specs.declared.Plan.{Plan}
use Rattle.plan.specs.Plans.{at_of, Right, column}
use Rattle.groups.specs.Write.{name_at, val_at}
use Rattle.groups.specs.Parts.{new_local}

module _ (P : Plan) (r : Right P) (img other : List ℕ) (c o : ℕ) where
  pub write_local : (bytes : List ℕ) (s a : ℕ) → ((d : ℕ) → d < P.n + P.k → get_or img (at_of P d + o) 0 ≡ get_or other (at_of P d + o) 0)
      → val_at P img bytes s a c o ≡ val_at P other bytes s a c o
  unfolding val_at column
  write_local bytes s a same =
      new_local P r img other bytes s a o (name_at P s a (length bytes) o) (name_at P s a (length bytes) o) (λ d h t. same d h) (λ j h. refl) c
