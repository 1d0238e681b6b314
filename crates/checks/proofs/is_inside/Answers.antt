-- `checks::is_inside` meets its contract: the difference is taken once the offset is known to be inside.
use mathlib.Core.Path.{sym}
use native.Mathlib.Omega.{arith}
use lib.Dec.{leb}
use borrow.Author.Tests.{le-leb, lt-leb}
use Rattle.lists.specs.Pick.{pick_true, pick-false}
use Rattle.checks.proofs.is_inside.Goals as goal

pub returns-then-capacity-offset : goal.returns-then-capacity-offset
returns-then-capacity-offset c = sym (pick-false (leb c.args.offset c.args.capacity) _ _ (lt-leb c.args.offset c.args.capacity (omega (arith, c.if-capacity-offset.true))))

pub returns : goal.returns
returns c = sym (pick_true (leb c.args.offset c.args.capacity) _ _ (le-leb c.args.offset c.args.capacity (omega (arith, c.if-capacity-offset.false))))
