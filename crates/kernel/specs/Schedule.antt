-- A schedule: the sum that it names, whose sum that is, and that its runs lie in a list.
use Rattle.std.specs.Prelude.{List, ℕ, ◌*◌, ◌^◌, ◌<◌, ◌≤◌, get_or}
use Rattle.kernel.specs.Plan.{Reach, planned}
use Rattle.kernel.specs.Fill.{Planes}
use Rattle.kernel.specs.Combine.{reach_to}
use Rattle.kernel.specs.declared.schedule.Schedule.{Schedule}

-- the byte at `place` of the sum that a schedule names
abbrev pub scheduled : List ℕ → Schedule → ℕ → ℕ
scheduled src s place = planned src s.list.now s.counts s.top place

-- the runs of a schedule lie in a list of `len`, up to `end`
pub record Reaches (s : Schedule) (end len : ℕ) : Type 0 where
  pub each : (k : ℕ) → k < s.top → Reach s.list.now (k * 16) (get_or s.counts k 0) end len

-- a schedule of n factors over the runs that begin at `starts`
pub record Schedules (starts coefs : List ℕ) (n : ℕ) (s : Schedule) : Type 0 where
  pub planes : Planes starts coefs n s.list.now s.counts s.top
  pub factors : (j : ℕ) → j < n → get_or coefs j 0 < 2 ^ s.top

pub reaches_to : {s : Schedule} {end end' len : ℕ} → Reaches s end len → end' ≤ end → Reaches s end' len
reaches_to r h = record { each = λ k i. reach_to (r.each k i) h }
