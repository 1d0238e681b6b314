-- The calls of the count: "The service panel shows how many units await repair", and "An audit call counts afresh and answers 14 if the stored one
-- differs".
use Rattle.std.specs.Prelude.{[], ◌∷◌, ℕ, eqb}
use Rattle.lists.specs.Refusal.{refusal_by, grant}
use Rattle.numbers.specs.declared.Layout.{Layout}
use Rattle.homes.specs.declared.Record.{Record}
use Rattle.pool.specs.Counting.{missing_units}
use Rattle.pool.specs.Refusals.{pool_tests, repair_refusal}

-- the panel: one of the record's numbers, by the tests that every call makes first, which are all that a repair makes; 0 where refused
unfoldable pub panel_shows : Layout → Record → ℕ → ℕ → ℕ
panel_shows y R len n = grant (repair_refusal y R len) n 0

unfoldable pub audit_refusal : Layout → Record → ℕ → ℕ
audit_refusal y R len = refusal_by (pool_tests y R len ((eqb R.waiting (missing_units y R), 14) ∷ []))
