use Rattle.proposal_check.specs.Entry.{Taken}
use Rattle.proposal_check.proofs.sources_good.Given as goal

abbrev pub invariant-loop-source : goal.invariant-loop-source
invariant-loop-source l = Taken l.initial.taken l.m l.sources l.source-index l.taken
