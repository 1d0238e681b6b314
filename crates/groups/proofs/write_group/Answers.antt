-- `groups::write_group`. Three ranges of unit offsets, one after another (`group_made`).
use native.Mathlib.Omega.{arith}
use Rattle.groups.specs.Parts.{group_made}
use Rattle.groups.proofs.write_group.Goals as goal

pub returns : goal.returns
returns c = let e = c.ends_of-ends.ensures in
    group_made _ _ _ _ _ _ _ _ _ _ c.requires.0 c.requires.1 (omega (arith, c.min-low.ensures, c.max-high.ensures))
    (omega (arith, c.max-high.ensures, e.o1_lt, e.o2_le)) c.write_part.ensures c.write_part-2.ensures c.write_part-3.ensures
