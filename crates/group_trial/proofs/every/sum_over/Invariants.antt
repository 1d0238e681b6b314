use Prim.Native.Nat.{◌<◌}
use Rattle.group_trial.proofs.every.sum_over.Given as goal

abbrev pub invariant-loop-byte : goal.invariant-loop-byte
invariant-loop-byte l = l.sum < 2147483647
