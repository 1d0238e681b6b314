-- Running a plan: what it leaves. "else number 15 and nothing changed"
use Rattle.std.specs.Prelude.{Bool, not, List, [], ◌∷◌, ℕ, length}
use Rattle.lists.specs.Refusal.{refusal_by, grant}
use Rattle.lists.specs.Search.{lowest}
use Rattle.numbers.specs.declared.Layout.{Layout}
use Rattle.parity.specs.Group.{rebuilt}
use Rattle.homes.specs.declared.Record.{Record}
use Rattle.homes.specs.Listed.{listed}
use Rattle.pool.specs.Contents.{stored}
use Rattle.pool.specs.Counting.{missing_units}
use Rattle.pool.specs.Refusals.{pool_tests}
use Rattle.pool.specs.Repairing.{mended, mends}
use Rattle.pool.specs.Storing.{storing}
use Rattle.proposal.specs.Plans.{entries, source, names, plan_good}

-- what every call of the pool tests, and then 15 the plan is not accepted
abbrev pub plan_tests : Layout → Record → List ℕ → List (Bool × ℕ)
plan_tests y R plan = (plan_good y R plan, 15) ∷ []

unfoldable pub plan_refusal : Layout → Record → ℕ → List ℕ → ℕ
plan_refusal y R len plan = refusal_by (pool_tests y R len (plan_tests y R plan))

-- the entry that names content c of group g
unfoldable pub named_by : Layout → List ℕ → ℕ → ℕ → ℕ
named_by y plan g c = lowest (λ i. names y plan i g c) (entries y plan)

-- "the N units to use": every other content counts as missing
unfoldable pub unused : Layout → List ℕ → ℕ → ℕ → Bool
unused y plan i u = not (listed (source y plan i) y.n u)

-- byte o of content c of group g, rebuilt from the sources of the entry that names it
unfoldable pub planned_byte : Layout → Record → List ℕ → List ℕ → ℕ → ℕ → ℕ → ℕ
planned_byte y R plan img g o c = rebuilt y.n y.k (unused y plan (named_by y plan g c)) (stored y R img g o) c

-- every missing content is stored at its home under the whole list, as in plain repair; what differs is what its bytes are rebuilt from
abbrev pub planned_image : Layout → Record → List ℕ → List ℕ → List ℕ
planned_image y R plan img = storing y R R.k (mends y R) (planned_byte y R plan img) img

unfoldable pub plan_image : Layout → Record → List ℕ → List ℕ → List ℕ
plan_image y R plan img = grant (plan_refusal y R (length img) plan) (planned_image y R plan img) img

unfoldable pub plan_record : Layout → Record → ℕ → List ℕ → Record
plan_record y R len plan = grant (plan_refusal y R len plan) (mended R) R

unfoldable pub plan_count : Layout → Record → ℕ → List ℕ → ℕ
plan_count y R len plan = grant (plan_refusal y R len plan) (missing_units y R) 0
