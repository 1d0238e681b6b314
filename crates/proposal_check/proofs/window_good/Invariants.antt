use Rattle.std.proofs.Common.{◌≡◌}
use Rattle.std.specs.Slice.Iter.{chunks_exact_rest, chunks_exact_size}
use Rattle.place.specs.Places.{tile_permutation}
use Rattle.proposal.specs.Plans.{entry_size}
use Rattle.proposal_check.specs.Steps.{Passing}
use Rattle.proposal_check.proofs.window_good.Given as goal

abbrev pub invariant-loop-entry : goal.invariant-loop-entry
invariant-loop-entry l =
    (l.to ≡ tile_permutation l.y l.tile)
    × (chunks_exact_size l.entry-iterator ≡ entry_size l.y)
    × Passing l.y l.r l.plan l.w (chunks_exact_rest l.entry-iterator) l.marks
