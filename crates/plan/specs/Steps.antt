-- What a turn or a return of the code that makes a plan shows.
use Rattle.std.specs.Prelude.{◌≡◌, refl, Bool, true, false, not, List, [], ◌∷◌, ℕ, ◌<◌, get_or, take}
use Rattle.std.specs.Int.{from_bool}
use Rattle.std.proofs.Common.{sym, ap, ◌∙◌, get_or-take}
use Rattle.std.specs.Cmp.{booleans_Decides}
use Rattle.std.specs.Cmp.Lexicographic.{pointwise}
use Rattle.std.proofs.Math.Bool.{beq}
use Rattle.std.proofs.lemmas.Slice.Eq.{slice_eq-Decides}
use Rattle.lists.specs.Pick.{pick, bit}
use Rattle.systems.specs.Cramer.{three}
use Rattle.systems.specs.Matrix.{ent}

-- a flag as a number
pub from_bool_bit : (b : Bool) → from_bool b ≡ bit b
from_bool_bit true = refl
from_bool_bit false = refl

-- flags whose first m are equal
pub flags_same : (a b : List Bool) (m : ℕ) → true ≡ pointwise beq (take m a) (take m b) → (i : ℕ) → i < m → get_or a i false ≡ get_or b i false
flags_same a b m e i h =
    sym (get_or-take m a i false h) ∙ ap (λ (l : List Bool). get_or l i false) ((slice_eq-Decides booleans_Decides (take m a) (take m b) true e).0 refl)
    ∙ get_or-take m b i false h

-- flags that are alike
pub alike_same : (a b : Bool) → pick a b (not b) ≡ true → a ≡ b
alike_same true b e = sym e
alike_same false true e = e
alike_same false false e = refl

-- the last of three
pub third_is : (x : List (List ℕ)) (i : ℕ) → i < 3 → (i ≡ 0 → ⊥) → (i ≡ 1 → ⊥) → get_or x 2 [] ≡ get_or x i []
third_is x = three (λ (i : ℕ). (i ≡ 0 → ⊥) → (i ≡ 1 → ⊥) → get_or x 2 [] ≡ get_or x i []) (λ a b. absurd (a refl)) (λ a b. absurd (b refl)) (λ a b. refl)

-- three rows, taken out one by one
pub three-rows : (x : List (List ℕ)) (j q : ℕ) → q < 3 → ent (get_or x 0 [] ∷ get_or x 1 [] ∷ get_or x 2 [] ∷ []) q j ≡ ent x q j
three-rows x j = three (λ (q : ℕ). ent (get_or x 0 [] ∷ get_or x 1 [] ∷ get_or x 2 [] ∷ []) q j ≡ ent x q j) refl refl refl
