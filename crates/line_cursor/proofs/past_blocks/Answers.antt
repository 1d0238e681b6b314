-- `line_cursor::past_blocks` meets its contract: before each block the line ends where one that began there would.
use mathlib.Core.Path.{sym, ◌∙◌}
use native.Mathlib.Omega.{arith}
use Rattle.line_cursor.specs.StepLaws.{block_rest, block_room, end-block}
use Rattle.line_cursor.proofs.past_blocks.Goals as goal

pub overflow_add-at : goal.overflow_add-at
overflow_add-at c = let i = c.loop-block.invariant in
    let s = c.in-Some.ensures in
    let room = block_room c.args.piece.now c.loop-block.at c.args.n c.in-Some.block.now _ (sym i.1 ∙ s.steps.1.0) (s.steps.1.1 ∙ i.0) i.2 in
    omega (arith, room)

pub loop-block-preserved : goal.loop-block-preserved
loop-block-preserved c = let i = c.loop-block.invariant in
    let piece = c.args.piece.now in
    let at = c.loop-block.at in
    let block = c.in-Some.block.now in
    let s = c.in-Some.ensures in
    let e = sym i.1 ∙ s.steps.1.0 in
    let q = s.steps.1.1 ∙ i.0 in (
      s.steps.0 ∙ i.0,
      block_rest piece at c.args.n block _ e q,
      block_room piece at c.args.n block _ e q i.2,
      i.3 ∙ end-block piece at c.args.n block _ e q i.2 (sym c.has_newline.ensures ∙ c.if-has_newline.false),
    )
