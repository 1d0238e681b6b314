-- A set of units, and weights and rows, as the code holds them: flags, three numbers with zeros after them, lists of rows.
use Rattle.std.specs.Prelude.{◌≡◌, Bool, false, not, List, [], ℕ, ◌+◌, ◌<◌, ltb, length, get_or}
use Rattle.systems.specs.Matrix.{ent, three_of}
use Rattle.lists.specs.Pick.{pick}
use Rattle.lists.specs.Count.{count}
use Rattle.lists.specs.Those.{those}
use Rattle.field.specs.Byte.{◌⊕◌, mul}
use Rattle.field.specs.Sum.{sum3}
use Rattle.systems.specs.Coef.{coef}
use Rattle.parity.specs.Rows.{row_of}

-- the first three of a list, with zeros where there are fewer
abbrev pub pad3 : List ℕ → List ℕ
pad3 l = three_of (λ r. get_or l r 0)

-- the flag of unit u
abbrev pub flag : List Bool → ℕ → Bool
flag flags u = get_or flags u false

-- the flag of unit u is `wanted`
abbrev pub set_to : Bool → List Bool → ℕ → Bool
set_to wanted flags u = pick wanted (flag flags u) (not (flag flags u))

-- parity unit i is there
abbrev pub present : List Bool → ℕ → ℕ → Bool
present flags n i = not (flag flags (n + i))

-- `at` and `count` hold the list l of at most three numbers
pub record Holds (l at : List ℕ) (count : ℕ) : Type 0 where
  pub count_is : count ≡ length l
  pub at_is : at ≡ pad3 l

-- the coefficient of slot j, from the weights w of the equations and their parity units is
unfoldable pub slot_coef : List ℕ → List ℕ → Bool → ℕ → ℕ → ℕ
slot_coef w is missing c j = pick missing (get_or w c 0) (sum3 (λ r. mul (get_or w r 0) (coef (get_or is r 0) j)))

-- what equation r counts for, from an unknown's row of the inverse; 0 where there are fewer equations
abbrev pub weight_of : List ℕ → ℕ → ℕ → ℕ
weight_of line d r = pick (ltb r d) (get_or line r 0) 0

-- the coefficient of slot j in the lost data unit number c, of d
unfoldable pub lost_coef : List (List ℕ) → List ℕ → ℕ → (ℕ → Bool) → ℕ → ℕ → ℕ
lost_coef m is d miss c j = pick (ltb c d) (slot_coef (three_of (weight_of (get_or m c []) d)) is (miss j) (count miss j) j) 0

-- the coefficient of slot j in parity unit i, from the lost units ks and what slot j counts for in them
unfoldable pub parity_coef : List ℕ → List ℕ → Bool → ℕ → ℕ → ℕ
parity_coef ks col missing i j = pick missing 0 (coef i j) ⊕ sum3 (λ r. mul (coef i (get_or ks r 0)) (get_or col r 0))

-- the coefficient of slot j in the missing unit number q, of `total`: a lost data unit, or parity unit i
unfoldable pub unit_coef : List ℕ → ℕ → List (List ℕ) → ℕ → Bool → ℕ → ℕ → ℕ → ℕ
unit_coef ks d lines total missing q i j =
    pick (ltb q d) (ent lines q j) (pick (ltb q total) (parity_coef ks (three_of (λ r. ent lines r j)) missing i j) 0)

-- row q is that of the missing unit number q
abbrev pub RowsFor : ℕ → ℕ → (ℕ → Bool) → List (List ℕ) → Type 0
RowsFor n k miss rows = (q : ℕ) → q < length (those miss (n + k)) → (j : ℕ) → j < n → ent rows q j ≡ row_of n k miss (get_or (those miss (n + k)) q 0) j
