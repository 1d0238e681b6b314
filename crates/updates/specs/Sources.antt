-- Where the data of a run lie, and what parity is made of.
use Rattle.std.specs.Prelude.{◌≡◌, ◌⊎◌, Bool, not, List, ℕ, ◌+◌, ◌-◌, ◌*◌, ◌<◌, ◌≤◌, get_or}
use Rattle.lists.specs.Pick.{pick}
use Rattle.lists.specs.Part.{within}
use Rattle.field.specs.Byte.{mul}
use Rattle.field.specs.Sum.{sum_to}
use Rattle.parity.specs.Group.{parity_of}
use Rattle.plan.specs.declared.Plan.{Plan}
use Rattle.plan.specs.Plans.{at_of, miss_of, column}
use Rattle.runs.specs.Held.{run_of, held_run, rank_place}

unfoldable pub byte_start : ℕ → ℕ → ℕ → ℕ → ℕ → ℕ → ℕ → ℕ
byte_start u s a from units lo j = pick (within from units j) (s + (u * j + lo) - a) 0

unfoldable pub lost_start : Plan → ℕ → ℕ
lost_start P j = pick (miss_of P j) (rank_place P j) 0

-- n runs of len bytes each lie within `size` bytes
pub record Starts (size : ℕ) (starts : List ℕ) (n len : ℕ) : Type 0 where
  pub n_max : n ≤ 16
  pub inside : (j : ℕ) → j < n → get_or starts j 0 + len ≤ size

-- the data units' runs in the image begin there
pub record Begins (P : Plan) (lo : ℕ) (starts : List ℕ) : Type 0 where
  pub at : (j : ℕ) → j < P.n → get_or starts j 0 ≡ at_of P j + lo

-- parity i is present; where its run begins
unfoldable pub standing : Plan → ℕ → Bool
standing P i = not (miss_of P (P.n + i))

unfoldable pub parity_at : Plan → ℕ → ℕ → ℕ
parity_at P lo i = at_of P (P.n + i) + lo

-- parity i of data that all lie in the bytes to write
unfoldable pub whole_parity : Plan → List ℕ → List ℕ → ℕ → ℕ → ℕ
whole_parity P bytes starts i o = parity_of P.n (λ j. run_of bytes (get_or starts j 0) o) i

-- a sum over the data, the missing ones from the scratch and the others from the image
unfoldable pub around_sum : Plan → List ℕ → List ℕ → List ℕ → List ℕ → ℕ → ℕ
around_sum P img lost starts row o =
    sum_to P.n (λ j. mul (get_or row j 0) (pick (miss_of P j) (get_or lost (rank_place P j + o) 0) (get_or img (get_or starts j 0 + o) 0)))

-- data j at unit offset lo + o, from where it lies
unfoldable pub gathered : Plan → List ℕ → List ℕ → ℕ → ℕ → ℕ → ℕ
gathered P img lost lo o j = pick (miss_of P j) (get_or lost (rank_place P j + o) 0) (column P img (lo + o) j)

-- parity i of those
unfoldable pub parity_over : Plan → List ℕ → List ℕ → ℕ → ℕ → ℕ → ℕ
parity_over P img lost lo i o = parity_of P.n (gathered P img lost lo o) i

-- what a missing data unit comes to hold: the bytes to write where they name it, else what it held
unfoldable pub kept_run : Plan → List ℕ → List ℕ → List ℕ → ℕ → ℕ → ℕ → ℕ → ℕ → ℕ
kept_run P img bytes starts from units lo c o = pick (within from units c) (run_of bytes (get_or starts c 0) o) (held_run P img lo c o)

-- a scratch of `size` bytes holds all that is missing: it has room for it, or nothing is
abbrev pub Keeps : Plan → ℕ → Type 0
Keeps P size = (P.gone ≡ 0) ⊎ (size ≡ 12288)
