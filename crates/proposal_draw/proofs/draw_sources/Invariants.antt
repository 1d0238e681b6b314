use Prim.Native.Nat.{◌-◌}
use Rattle.proposal_draw.specs.Entry.{SourcesTo}
use Rattle.proposal_draw.proofs.draw_sources.Given as goal

abbrev pub invariant-loop-j : goal.invariant-loop-j
invariant-loop-j l = SourcesTo l.missing l.m l.n l.at l.initial.out l.u l.j l.out

abbrev pub decreases-loop-j : goal.decreases-loop-j
decreases-loop-j l = l.m - l.u
