use mathlib.Core.Path.{◌≡◌}
use Prim.Native.Nat.{ℕ, ◌≤◌, ◌<◌}
use lib.ListN.{length, get_or}
use Rattle.lists.specs.Tabulate.{at}
use Rattle.place.specs.Bytes.{spot}
use Rattle.place.specs.Places.{cell_of}
use Rattle.homes.specs.Missing.{target_at}
use Rattle.survey.proofs.sites_of.Given as goal

abbrev pub invariant-loop-u : goal.invariant-loop-u
invariant-loop-u l =
    (l.u ≤ l.w) × (length l.targets ≡ 22) × (length l.starts ≡ 22) × ((k : ℕ) → k < l.u → at l.targets k ≡ target_at l.y l.g k) ×
    ((k : ℕ) → k < l.u → get_or l.starts k 0 ≡ spot l.y l.g k 0) × (l.cell ≡ cell_of l.y l.g l.u)
