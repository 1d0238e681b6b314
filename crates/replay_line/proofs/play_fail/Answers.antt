-- `replay_line::play_fail` meets its contract: the target is the one that the line tells.
use native.Mathlib.Omega.{arith}
use Rattle.trace.specs.FormLaws.{fail_length}
use Rattle.replay_line.proofs.play_fail.Goals as goal

pub number_at-target-requires : goal.number_at-target-requires
number_at-target-requires c = let l = fail_length c.args.line.now c.requires.0 in (omega (arith, l), omega arith)
