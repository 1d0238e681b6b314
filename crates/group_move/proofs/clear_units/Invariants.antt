use mathlib.Core.Path.{◌≡◌}
use lib.ListN.{length}
use Rattle.group_move.specs.Moved.{units_cleared}
use Rattle.group_move.proofs.clear_units.Given as goal

abbrev pub invariant-loop-start : goal.invariant-loop-start
invariant-loop-start l = (length l.new ≡ length l.initial.new) × (l.new ≡ units_cleared l.fn.starts l.u l.start-index l.initial.new)
