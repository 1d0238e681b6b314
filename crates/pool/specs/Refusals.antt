-- The pool's refusals: each call's tests in the order of their numbers, each with its number. `len` is the length of the lent image.
use Rattle.std.specs.Prelude.{Bool, true, not, List, [], ◌∷◌, ℕ, ◌+◌, ◌-◌, eqb, leb, ltb}
use Rattle.lists.specs.Refusal.{refusal_by, grant}
use Rattle.numbers.specs.declared.Layout.{Layout}
use Rattle.numbers.specs.Layouts.{all_groups, contents, all_contents, capacity, image_length}
use Rattle.numbers.specs.Refused.{validb}
use Rattle.homes.specs.declared.Record.{Record}
use Rattle.homes.specs.Records.{failed, record_good}
use Rattle.pool.specs.Counting.{on_target}

-- what every call tests first: 1 "a layout number outside the bounds", 2 "image length wrong", 3 "failure record bad", 3 "A count above T·C·(N+K)"
abbrev pub pool_tests : Layout → Record → ℕ → List (Bool × ℕ) → List (Bool × ℕ)
pool_tests y R len rest = (validb y, 1) ∷ (eqb len (image_length y), 2) ∷ (record_good y R, 3) ∷ (leb R.waiting (all_contents y), 3) ∷ rest

-- read and write: "A range is outside where offset > capacity or length > capacity − offset"
abbrev pub range_tests : Layout → ℕ → ℕ → List (Bool × ℕ)
range_tests y offset size = (leb offset (capacity y), 4) ∷ (leb size (capacity y - offset), 4) ∷ []

unfoldable pub range_refusal : Layout → Record → ℕ → ℕ → ℕ → ℕ
range_refusal y R len offset size = refusal_by (pool_tests y R len (range_tests y offset size))

-- fail, of its target: 4 it is outside, 6 "target already failed", 7 "dud: k = K already"
abbrev pub target_tests : Layout → Record → ℕ → List (Bool × ℕ)
target_tests y R target = (ltb target y.p, 4) ∷ (not (failed R target), 6) ∷ (not (eqb R.k y.k), 7) ∷ []

-- a fail is "otherwise accepted" where none of these and none of every call's tests refuses it
unfoldable pub otherwise : Layout → Record → ℕ → ℕ → ℕ
otherwise y R len target = refusal_by (pool_tests y R len (target_tests y R target))

-- the count that it raises, raised
abbrev pub raised : Layout → Record → ℕ → ℕ
raised y R target = R.waiting + on_target y R target

-- ".. or one that an otherwise accepted fail would raise above it, is 3": one test of two parts, so that the table stays in rising order
abbrev pub stays_within : Layout → Record → ℕ → ℕ → Bool
stays_within y R len target = grant (otherwise y R len target) (leb (raised y R target) (all_contents y)) true

abbrev pub fail_tests : Layout → Record → ℕ → ℕ → List (Bool × ℕ)
fail_tests y R len target = (stays_within y R len target, 3) ∷ target_tests y R target

unfoldable pub fail_refusal : Layout → Record → ℕ → ℕ → ℕ
fail_refusal y R len target = refusal_by (pool_tests y R len (fail_tests y R len target))

unfoldable pub repair_refusal : Layout → Record → ℕ → ℕ
repair_refusal y R len = refusal_by (pool_tests y R len [])

-- both steps of a look: 4 the group is outside, or the content ("a unit ≥ N+K is 4, here and in a look"), 5 the scratch, of `room` bytes, is not of
-- U bytes
abbrev pub look_tests : Layout → ℕ → ℕ → ℕ → List (Bool × ℕ)
look_tests y room group content = (ltb group (all_groups y), 4) ∷ (ltb content (contents y), 4) ∷ (eqb room y.u, 5) ∷ []

unfoldable pub look_refusal : Layout → Record → ℕ → ℕ → ℕ → ℕ → ℕ
look_refusal y R len room group content = refusal_by (pool_tests y R len (look_tests y room group content))
