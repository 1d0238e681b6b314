-- `line_cursor::line_end` meets its contract: past the blocks the line ends where one that began there would, by the first newline there.
use mathlib.Core.Path.{sym, ◌∙◌}
use Rattle.std.proofs.lemmas.Slice.{between_to_end}
use native.Mathlib.Omega.{arith}
use Rattle.line_cursor.specs.StepLaws.{end-first, end-last}
use Rattle.line_cursor.proofs.line_end.Goals as goal

pub returns-in-Some : goal.returns-in-Some
returns-in-Some c = let piece = c.args.piece.now in
    let at = c.past_blocks-at.result in
    let first = c.in-Some.ensures in
    end-first piece at c.in-Some.i (between_to_end piece at _ (omega arith)) first.0 first.1 first.2 ∙ sym (c.past_blocks-block.ensures.1 ∙ c.past_blocks-at.ensures.1)

pub returns-in-None : goal.returns-in-None
returns-in-None c = let piece = c.args.piece.now in
    let at = c.past_blocks-at.result in
    end-last piece at c.past_blocks-at.ensures.0 (between_to_end piece at _ (omega arith)) c.in-None.ensures ∙ sym (c.past_blocks-block.ensures.1 ∙ c.past_blocks-at.ensures.1)
