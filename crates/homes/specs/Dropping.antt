-- A target is taken back (document 02, order 10): it "leaves the failure list, the others in order".
use Rattle.std.specs.Prelude.{ℕ, suc, ◌-◌, eqb, ltb}
use Rattle.lists.specs.Pick.{pick}
use Rattle.lists.specs.Tabulate.{tabulate}
use Rattle.homes.specs.declared.Record.{Record}
use Rattle.homes.specs.Once.{place_in}
use Rattle.homes.specs.Records.{entry}

-- the place of target d in the list
abbrev pub list_place : Record → ℕ → ℕ
list_place R d = place_in (entry R) R.k d

-- "the others in order": where entry i of the shorter list stood, p the place that is left out
abbrev pub skip : ℕ → ℕ → ℕ
skip p i = pick (ltb i p) i (suc i)

-- ".. the freed entry is 0"; those after it are as they were
unfoldable pub entry_without : Record → ℕ → ℕ → ℕ
entry_without R d i = pick (ltb i (R.k - 1)) (entry R (skip (list_place R d) i)) (pick (eqb i (R.k - 1)) 0 (entry R i))

-- "k and q are both one lower"; the count of missing units stays what it is
abbrev pub without : Record → ℕ → Record
without R d = record { failed = tabulate 3 (entry_without R d); k = R.k - 1; q = R.q - 1; waiting = R.waiting }
