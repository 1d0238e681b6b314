use Prim.Native.Nat.{◌<◌}
use Rattle.group_trial.proofs.every.size.Given as goal

abbrev pub invariant-loop-x : goal.invariant-loop-x
invariant-loop-x g l = l.sum < 2147483647
