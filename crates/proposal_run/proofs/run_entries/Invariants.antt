use Rattle.std.proofs.Common.{◌≡◌}
use Rattle.std.specs.Slice.Iter.{chunks_exact_rest, chunks_exact_size}
use Rattle.survey.specs.Surveyed.{Surveying}
use Rattle.proposal.specs.Plans.{entry_size}
use Rattle.proposal_run.specs.Turns.{RanEntries}
use Rattle.proposal_run.proofs.run_entries.Given as goal

abbrev pub invariant-loop-entry : goal.invariant-loop-entry
invariant-loop-entry l =
    Surveying l.y l.survey
    × (chunks_exact_size l.entry-iterator ≡ entry_size l.y)
    × RanEntries l.y l.r l.proposal l.initial.image (chunks_exact_rest l.entry-iterator) l.image
