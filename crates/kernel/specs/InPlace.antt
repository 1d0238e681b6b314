-- Runs and sum in one list: what the sum reads lies apart from what it writes.
use Rattle.std.specs.Prelude.{◌⊎◌, ℕ, ◌+◌, ◌≤◌}

-- the run at s of len bytes lies in the list, before or after that at `at`
pub record Apart (s at len size : ℕ) : Type 0 where
  pub inside : s + len ≤ size
  pub aside : (s + len ≤ at) ⊎ (at + len ≤ s)
