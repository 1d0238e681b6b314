-- `groups::mend_unit`. No content that is there meets the new home (`mend_clear`); a content that is not missing is left as it is.
use native.Mathlib.Omega.{arith}
use Rattle.groups.specs.Mend.{mend_clear}
use Rattle.groups.proofs.mend_unit.Goals as goal

pub mend_run-requires : goal.mend_run-requires
mend_run-requires c = let p = c.requires in
    (p.0, mend_clear _ _ _ p.1 _ p.2 c.if-missing-c.true, omega (arith, p.2), c.if-missing-c.true)
