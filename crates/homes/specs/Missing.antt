-- Homes of the contents of a layout's groups, and which of them are missing.
use Rattle.std.specs.Prelude.{Bool, ℕ}
use Rattle.numbers.specs.declared.Layout.{Layout}
use Rattle.numbers.specs.Layouts.{contents}
use Rattle.place.specs.Places.{place_of}
use Rattle.homes.specs.declared.Record.{Record}
use Rattle.homes.specs.Homes.{homes}
use Rattle.homes.specs.Records.{entry, failed}

-- the target of unit u of group g
abbrev pub target_at : Layout → ℕ → ℕ → ℕ
target_at y g u = (place_of y g u).target

-- the home of content c of group g "under a list", here the first j entries of the record: a unit of the group
unfoldable pub home : Layout → Record → ℕ → ℕ → ℕ → ℕ
home y R j g c = homes (target_at y g) (contents y) y.k (entry R) j c

-- "A content is present if its home under the first q entries is on none of the k targets, else missing."
unfoldable pub missing : Layout → Record → ℕ → ℕ → Bool
missing y R g c = failed R (target_at y g (home y R R.q g c))
