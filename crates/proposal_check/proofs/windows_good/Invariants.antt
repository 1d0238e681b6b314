use Rattle.std.proofs.Common.{◌≡◌, true, ℕ, ◌<◌}
use Rattle.proposal_check.specs.Windows.{window_good}
use Rattle.proposal_check.proofs.windows_good.Given as goal

abbrev pub invariant-loop-w : goal.invariant-loop-w
invariant-loop-w l = (k : ℕ) → k < l.w → window_good l.y l.r l.plan 65536 k ≡ true
