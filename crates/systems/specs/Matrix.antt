-- Matrices and rows of three as the code holds them: lists of rows.
use Rattle.std.specs.Prelude.{List, [], ◌∷◌, ℕ, get_or}
use Rattle.field.specs.Byte.{mul}
use Rattle.field.specs.Sum.{sum3}

-- the entry of row r and column c
abbrev pub ent : List (List ℕ) → ℕ → ℕ → ℕ
ent m r c = get_or (get_or m r []) c 0

-- three numbers and three rows from a rule
abbrev pub three_of : (ℕ → ℕ) → List ℕ
three_of f = f 0 ∷ f 1 ∷ f 2 ∷ []

abbrev pub square_of : (ℕ → ℕ → ℕ) → List (List ℕ)
square_of f = three_of (f 0) ∷ three_of (f 1) ∷ three_of (f 2) ∷ []

-- the sum of the products of two rows of three
abbrev pub dot_of : List ℕ → List ℕ → ℕ
dot_of u v = sum3 (λ r. mul (get_or u r 0) (get_or v r 0))
