-- `entries::trusted` meets its contract: each return is the arm that its test picks.
use mathlib.Core.Path.{sym}
use Rattle.lists.specs.Pick.{pick_true, pick-false}
use Rattle.entries.proofs.trusted.Goals as goal

pub returns-then-sound : goal.returns-then-sound
returns-then-sound c = sym (pick_true c.args.sound c.args.n 0 c.if-sound.true)

pub returns-else-sound : goal.returns-else-sound
returns-else-sound c = sym (pick-false c.args.sound c.args.n 0 c.if-sound.false)
