use Prim.Native.Nat.{◌-◌}
use Rattle.homes.specs.declared.Record.{Record}
use Rattle.proposal_draw.specs.Drawn.{GroupAt, GroupTo}
use Rattle.proposal_draw.proofs.draw_group.Given as goal

abbrev pub invariant-loop-c : goal.invariant-loop-c
invariant-loop-c l = (R : Record) → GroupAt l.y R l.g l.missing l.at l.initial.out → GroupTo l.y R l.g l.at l.initial.out l.c l.next l.out
