use Prim.Native.Nat.{◌+◌, ◌-◌, ◌*◌, ◌≤◌}
use lib.ListN.{get_or}
use Rattle.kernel.specs.Horner.{poly}
use Rattle.kernel.specs.Plan.{picked, Filled}
use Rattle.kernel.proofs.schedule.Schedule.block.Given as goal

abbrev pub invariant-loop-k : goal.invariant-loop-k
invariant-loop-k l = (l.k ≤ l.self.top) × Filled (λ i. poly (l.self.top - l.k) l.k (λ x. picked l.src l.self.list.now (x * 16) (get_or l.self.counts x 0) (l.o + i))) l.m l.acc
