-- `hex_text::is_digits` meets its contract: before character i, the largest value says whether the first i are digits.
use mathlib.Core.Path.{◌∙◌, ap}
use Rattle.hex_text.specs.Runs.{digit_or16}
use Rattle.hex_text.specs.RunLaws.{part_at}
use Rattle.hex_text.specs.NumberLaws.{no_digits, digit_turn}
use Rattle.hex_text.proofs.is_digits.Goals as goal

pub loop-c-init : goal.loop-c-init
loop-c-init c = no_digits c.args.text.now c.args.from

pub loop-c-preserved : goal.loop-c-preserved
loop-c-preserved c = let l = c.loop-c in
    let a = c.args in
    digit_turn a.text.now a.from l.c-index l.largest (c.digit_or_16.ensures ∙ ap digit_or16 (part_at a.text.now a.from _ l.c-index c.loop-c-test.true)) c.max-largest.ensures l.invariant
