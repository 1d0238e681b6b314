-- `entries::shown` meets its contract: each return is the arm that its tests pick.
use Rattle.std.proofs.Common.{lt-ltb, le-ltb}
use Rattle.entries.specs.Plans.{shown_of}
use Rattle.entries.proofs.Derived.{off, on}
use Rattle.entries.proofs.shown.Goals as goal

pub returns-then-not-x : goal.returns-then-not-x
unfolding shown_of
returns-then-not-x c = simp (off c.args.x.sound c.if-not-x.true)

pub returns-then-room-end : goal.returns-then-room-end
unfolding shown_of
returns-then-room-end c = simp (on c.args.x.sound c.if-not-x.false, lt-ltb _ _ c.if-room-end.true)

pub returns : goal.returns
unfolding shown_of
returns c = simp (on c.args.x.sound c.if-not-x.false, le-ltb _ _ c.if-room-end.false)
