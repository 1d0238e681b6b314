-- A group in another image: what its contents hold there, and units of zeros.
use Rattle.std.specs.Prelude.{◌≡◌, Bool, true, List, ℕ, ◌-◌, ltb, get_or}
use Rattle.lists.specs.Pick.{pick}
use Rattle.parity.specs.Group.{content, parity_of}
use Rattle.plan.specs.declared.Plan.{Plan}
use Rattle.plan.specs.Plans.{at_of, column, held}
use Rattle.runs.specs.Run.{paint}
use Rattle.runs.specs.Held.{zero_byte}

-- the two plans are of groups of one shape, and the new one misses nothing
pub record Meets (P Q : Plan) : Type 0 where
  pub n_is : Q.n ≡ P.n
  pub k_is : Q.k ≡ P.k
  pub u_is : Q.u ≡ P.u
  pub whole : Q.gone ≡ 0

-- every unit is stored
abbrev pub always : ℕ → Bool
always c = true

-- byte o of content c: of a data unit as it stands in the old image or rebuilt, of a parity unit worked out from those
unfoldable pub moved_byte : Plan → List ℕ → ℕ → ℕ → ℕ
moved_byte P old c o = content P.n (held P old o) c

-- the same by what stands in the new image, where the data are by then
unfoldable pub byte_stored : Plan → Plan → List ℕ → List ℕ → ℕ → ℕ → ℕ
byte_stored P Q old new c o = pick (ltb c P.n) (held P old o c) (parity_of P.n (column Q new o) (c - P.n))

-- the first m contents are moved
unfoldable pub contents_moved : Plan → Plan → List ℕ → ℕ → List ℕ → List ℕ
contents_moved P Q old m new = paint always (at_of Q) P.u (moved_byte P old) m new

-- the first m of the units that begin at `starts` are zeros
unfoldable pub units_cleared : List ℕ → ℕ → ℕ → List ℕ → List ℕ
units_cleared starts u m new = paint always (λ i. get_or starts i 0) u (λ i. zero_byte) m new
