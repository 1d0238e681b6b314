-- A run as one value: what is asked of it, and the image once it is written.
use Rattle.std.specs.Prelude.{List, ℕ}
use Rattle.plan.specs.declared.Plan.{Plan}
use Rattle.updates.specs.declared.Run.{Run}
use Rattle.updates.specs.Writing.{run_written, RunFits}

abbrev pub Suits : Plan → Run → ℕ → Type 0
Suits P r count = RunFits P r.group_at r.bytes_at r.from r.units r.lo r.len count

abbrev pub written : Plan → List ℕ → List ℕ → Run → List ℕ
written P img bytes r = run_written P img bytes r.group_at r.bytes_at r.from r.units r.lo r.len
