use mathlib.Core.Path.{◌≡◌}
use Rattle.lists.specs.Count.{count}
use Rattle.parity.specs.Matrix.{flag}
use Rattle.group.proofs.flagged.Given as goal

abbrev pub invariant-loop-set : goal.invariant-loop-set
invariant-loop-set l = l.c ≡ count (flag l.fn.flags) l.set-index
