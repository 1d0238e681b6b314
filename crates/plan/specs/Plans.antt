-- A group by its plan: where its contents stand, which are missing, and what each holds. One column, the bytes at one unit offset, at a time.
use Rattle.std.specs.Prelude.{◌≡◌, Bool, List, ℕ, ◌+◌, ◌<◌, ◌≤◌, get_or}
use Rattle.lists.specs.Count.{count}
use Rattle.systems.specs.Coef.{coef}
use Rattle.systems.specs.Matrix.{ent}
use Rattle.parity.specs.Matrix.{flag, RowsFor}
use Rattle.parity.specs.Group.{Solvable, rebuilt}
use Rattle.parity.specs.Rows.{slot}
use Rattle.plan.specs.declared.Plan.{Plan}

-- three rows as a list of rows
abbrev pub lines_of : List (List ℕ) → List (List ℕ)
lines_of l = l

-- where content c begins in the image; whether it is missing
abbrev pub at_of : Plan → ℕ → ℕ
at_of P c = get_or P.at c 0

abbrev pub miss_of : Plan → ℕ → Bool
miss_of P = flag P.missing

-- the coefficients of the parity units
abbrev pub Codes : List (List ℕ) → Type 0
Codes l = (i : ℕ) → i < 3 → (j : ℕ) → j < 16 → ent l i j ≡ coef i j

-- a plan holds what its missing contents ask for
pub record Right (P : Plan) : Type 0 where
  pub solvable : Solvable P.n P.k (miss_of P)
  pub ranks : (c : ℕ) → c < P.n + P.k → get_or P.rank c 0 ≡ count (miss_of P) c
  pub slots_are : (j : ℕ) → j < P.n → get_or P.slots j 0 ≡ slot P.n P.k (miss_of P) j
  pub rows_are : RowsFor P.n P.k (miss_of P) P.rows
  pub codes_are : Codes P.codes
  pub gone_is : P.gone ≡ count (miss_of P) (P.n + P.k)

-- the plan that was asked for
pub record Planned (n k u : ℕ) (at : List ℕ) (missing : List Bool) (P : Plan) : Type 0 where
  pub n_is : P.n ≡ n
  pub k_is : P.k ≡ k
  pub u_is : P.u ≡ u
  pub at_is : P.at ≡ at
  pub flags_are : (c : ℕ) → c < n + k → miss_of P c ≡ flag missing c
  pub right : Right P

-- a plan that may be used on an image of `size` bytes: each content's unit lies in it, also a missing one's
pub record Fits (P : Plan) (size : ℕ) : Type 0 where
  pub right : Right P
  pub u-max : P.u ≤ 4096
  pub inside : (c : ℕ) → c < P.n + P.k → at_of P c + P.u ≤ size

-- the units of different contents do not meet
pub record Apart (P : Plan) : Type 0 where
  pub apart : (c d x y : ℕ) → c < P.n + P.k → d < P.n + P.k → x < P.u → y < P.u → at_of P c + x ≡ at_of P d + y → c ≡ d

-- the byte of content c at unit offset o, as it stands
unfoldable pub column : Plan → List ℕ → ℕ → ℕ → ℕ
column P img o c = get_or img (at_of P c + o) 0

-- the same with the missing contents rebuilt
unfoldable pub held : Plan → List ℕ → ℕ → ℕ → ℕ
held P img o c = rebuilt P.n P.k (miss_of P) (column P img o) c
