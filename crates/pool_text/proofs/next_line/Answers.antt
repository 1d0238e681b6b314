-- `pool_text::next_line` meets its contract: after the last frame of a target comes the first of the next.
use mathlib.Core.Path.{refl, sym, ◌∙◌}
use native.Mathlib.Omega.{arith}
use Rattle.pool_text.specs.Places.{text-few, char_in}
use Rattle.pool_text.specs.Here.{here_frame, here_target}
use Rattle.pool_text.proofs.next_line.Goals as goal

pub overflow_add-next-2 : goal.overflow_add-next-2
overflow_add-next-2 c = let b = char_in c.args.y c.args.here.i c.requires.3 0 (omega arith) in
    let e = c.requires.2.at_is in
    omega (arith, e, b, text-few c.args.y c.requires.0, c.requires.0.few_bytes)

pub overflow_add-next-3 : goal.overflow_add-next-3
overflow_add-next-3 c = let b = char_in c.args.y c.args.here.i c.requires.3 0 (omega arith) in
    let e = c.requires.2.at_is in
    omega (arith, e, b, text-few c.args.y c.requires.0, c.requires.0.few_bytes)

pub returns-then-here-frames : goal.returns-then-here-frames
returns-then-here-frames c = (here_target c.args.y c.requires.0 c.args.here c.requires.2 (c.if-here-frames.true ∙ c.requires.1), refl)

pub returns : goal.returns
returns c = (here_frame c.args.y c.requires.0 c.args.here c.requires.2 (λ z. c.if-here-frames.false (z ∙ sym c.requires.1)), refl)
