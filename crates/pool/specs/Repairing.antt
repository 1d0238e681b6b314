-- repair: "Repair stores every missing content at its home under the whole list, sets q = k, and answers with how many (group, content) pairs
-- were missing before."
use Rattle.std.specs.Prelude.{Bool, List, ℕ, length}
use Rattle.lists.specs.Refusal.{grant}
use Rattle.numbers.specs.declared.Layout.{Layout}
use Rattle.homes.specs.declared.Record.{Record}
use Rattle.homes.specs.Missing.{missing}
use Rattle.pool.specs.Counting.{missing_units}
use Rattle.pool.specs.Contents.{content_byte}
use Rattle.pool.specs.Refusals.{repair_refusal}
use Rattle.pool.specs.Storing.{storing}

-- "sets q = k", and the count "to 0"
abbrev pub mended : Record → Record
mended R = record { failed = R.failed; k = R.k; q = R.k; waiting = 0 }

-- "stores every missing content": each of its U bytes
abbrev pub mends : Layout → Record → ℕ → ℕ → ℕ → Bool
mends y R g o c = missing y R g c

-- ".. at its home under the whole list"
abbrev pub mended_image : Layout → Record → List ℕ → List ℕ
mended_image y R img = storing y R R.k (mends y R) (content_byte y R img) img

unfoldable pub repair_image : Layout → Record → List ℕ → List ℕ
repair_image y R img = grant (repair_refusal y R (length img)) (mended_image y R img) img

unfoldable pub repair_record : Layout → Record → ℕ → Record
repair_record y R len = grant (repair_refusal y R len) (mended R) R

unfoldable pub repair_count : Layout → Record → ℕ → ℕ
repair_count y R len = grant (repair_refusal y R len) (missing_units y R) 0
