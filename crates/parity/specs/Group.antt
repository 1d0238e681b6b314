-- A group at one byte position: its contents from its data, and what is rebuilt of it. The bytes of the units are a function of the unit's
-- number, and a set of missing units is a test on it; so a unit named twice counts once.
use Rattle.std.specs.Prelude.{Bool, not, List, ℕ, ◌+◌, ◌-◌, ◌≤◌, ltb, length, get_or}
use Rattle.lists.specs.Pick.{pick}
use Rattle.lists.specs.Count.{count}
use Rattle.lists.specs.Those.{those}
use Rattle.field.specs.Byte.{◌⊕◌, mul}
use Rattle.field.specs.Sum.{sum_to}
use Rattle.systems.specs.Coef.{coef}
use Rattle.systems.specs.Cramer.{sol}
use Rattle.systems.specs.System.{sys}

-- "Parity i of a group, at each byte position, is the sum over j of a(i,j)·D_j"
unfoldable pub parity_of : ℕ → (ℕ → ℕ) → ℕ → ℕ
parity_of n d i = sum_to n (λ j. mul (coef i j) (d j))

-- the byte of unit u of the group whose n data bytes are d: the data, then the parity
unfoldable pub content : ℕ → (ℕ → ℕ) → ℕ → ℕ
content n d u = pick (ltb u n) (d u) (parity_of n d (u - n))

-- a group of n data and k parity units, with at most k missing
pub record Solvable (n k : ℕ) (miss : ℕ → Bool) : Type 0 where
  pub data_max : n ≤ 16
  pub parity_max : k ≤ 3
  pub few : count miss (n + k) ≤ k

-- the missing units, lowest first
abbrev pub gone : ℕ → ℕ → (ℕ → Bool) → List ℕ
gone n k miss = those miss (n + k)

-- the missing data units, and the parity units that are there, counted from the first
abbrev pub lost : ℕ → (ℕ → Bool) → List ℕ
lost n miss = those miss n

abbrev pub there : ℕ → ℕ → (ℕ → Bool) → List ℕ
there n k miss = those (λ i. not (miss (n + i))) k

-- the equations: one for each missing data unit, from the parity units that are there, lowest first. A choice of other units that are there is
-- the same with the units left out counted as missing.
abbrev pub equations : ℕ → ℕ → (ℕ → Bool) → ℕ → ℕ → ℕ
equations n k miss = sys (there n k miss) (lost n miss)

-- what the data that are there leave of parity i
unfoldable pub left : ℕ → (ℕ → Bool) → (ℕ → ℕ) → ℕ → ℕ
left n miss old i = old (n + i) ⊕ sum_to n (λ j. pick (miss j) 0 (mul (coef i j) (old j)))

-- the right side of equation r, 0 where it is only padding
unfoldable pub known : ℕ → ℕ → (ℕ → Bool) → (ℕ → ℕ) → ℕ → ℕ
known n k miss old r = pick (ltb r (length (lost n miss))) (left n miss old (get_or (there n k miss) r 0)) 0

-- data j: as it stands, or where it is missing the unknown at its place in the equations
unfoldable pub data_of : ℕ → ℕ → (ℕ → Bool) → (ℕ → ℕ) → ℕ → ℕ
data_of n k miss old j = pick (miss j) (sol (equations n k miss) (known n k miss old) (count miss j)) (old j)

-- "It uses the N lowest present units, fills the missing ones and changes nothing else": that this says so is `Rebuilds` of Lowest.antt
unfoldable pub rebuilt : ℕ → ℕ → (ℕ → Bool) → (ℕ → ℕ) → ℕ → ℕ
rebuilt n k miss old u = pick (miss u) (content n (data_of n k miss old) u) (old u)
