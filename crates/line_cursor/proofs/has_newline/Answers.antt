-- `line_cursor::has_newline` meets its contract: before byte i it is known whether one of the first i is a newline.
use Rattle.line_cursor.specs.StepLaws.{within_none, within_turn}
use Rattle.line_cursor.proofs.has_newline.Goals as goal

pub loop-c-init : goal.loop-c-init
loop-c-init c = within_none c.args.bytes.now

pub loop-c-preserved : goal.loop-c-preserved
loop-c-preserved c = within_turn c.args.bytes.now c.loop-c.c-index c.loop-c.invariant
