-- "The second shows the unit as a part of the image, or of the scratch where it is missing", said as numbers: where the part begins and how long it
-- is. After a refusal "a shown part is empty".
use Rattle.std.specs.Prelude.{false, List, ℕ, take, drop}
use Rattle.lists.specs.Pick.{pick}
use Rattle.lists.specs.Refusal.{grant}
use Rattle.numbers.specs.declared.Layout.{Layout}
use Rattle.homes.specs.declared.Record.{Record}
use Rattle.homes.specs.Missing.{missing}
use Rattle.pool.specs.Contents.{home_spot}
use Rattle.pool.specs.Refusals.{look_refusal}
use Rattle.pool_look.specs.declared.Shown.{Shown}

-- n is the refusal number
abbrev pub shown_by : Layout → Record → ℕ → ℕ → ℕ → Shown
shown_by y R g c n =
    grant n (record { refusal = 0; missing = missing y R g c; begins = pick (missing y R g c) 0 (home_spot y R g 0 c); length = y.u })
    (record { refusal = n; missing = false; begins = 0; length = 0 })

unfoldable pub shown_at : Layout → Record → ℕ → ℕ → ℕ → ℕ → Shown
shown_at y R len room g c = shown_by y R g c (look_refusal y R len room g c)

-- the part that is so named
abbrev pub part_at : Shown → List ℕ → List ℕ → List ℕ
part_at x img scratch = pick x.missing scratch (take x.length (drop x.begins img))
