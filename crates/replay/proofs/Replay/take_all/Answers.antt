-- `replay::Replay::take_all` is safe: each line ends in the piece, after its beginning, so the loop ends.
use native.Mathlib.Omega.{arith}
use Rattle.line_cursor.specs.CursorLaws.{end-le, end_more}
use Rattle.replay.proofs.Replay.take_all.Goals as goal

pub slice_bounds-take-end : goal.slice_bounds-take-end
slice_bounds-take-end g c =
    let p = c.args.piece.now in
    let l = c.loop-from in
    let most = end-le p l.from l.invariant in
    omega (arith, c.line_end-end.ensures, most)

pub loop-from-smaller : goal.loop-from-smaller
loop-from-smaller g c =
    let p = c.args.piece.now in
    let less = end_more p c.loop-from.from c.loop-from-test.true in
    omega (arith, c.line_end-end.ensures, less, c.loop-from-test.true)

pub loop-from-preserved : goal.loop-from-preserved
loop-from-preserved g c =
    let l = c.loop-from in
    let most = end-le c.args.piece.now l.from l.invariant in
    omega (arith, c.line_end-end.ensures, most)
