use mathlib.Core.Path.{◌≡◌}
use Prim.Native.Nat.{◌+◌, ◌*◌, ◌≤◌}
use Rattle.lists.specs.Count.{sum}
use Rattle.homes.specs.Records.{entry}
use Rattle.pool.specs.Counting.{on_target}
use Rattle.tally.proofs.missing_units.Given as goal

abbrev pub invariant-loop-target : goal.invariant-loop-target
invariant-loop-target l = let i = l.fn.r.q + l.target-index in (l.n ≤ 1441792 * i) × (l.n ≡ sum (λ j. on_target l.y l.fn.r (entry l.fn.r j)) i)
