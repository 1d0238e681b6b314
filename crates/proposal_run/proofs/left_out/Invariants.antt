use Rattle.std.proofs.Common.{◌≡◌, length}
use Rattle.proposal_run.specs.Turns.{LeftOut}
use Rattle.proposal_run.proofs.left_out.Given as goal

abbrev pub invariant-loop-source : goal.invariant-loop-source
invariant-loop-source l = (length l.missing ≡ 19) × LeftOut l.sources l.source-index l.missing
