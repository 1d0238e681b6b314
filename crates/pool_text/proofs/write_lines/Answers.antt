-- `pool_text::write_lines` meets its contract: before line i the lines before it stand in the text.
use Prim.Native.Nat.{ℕ, ◌+◌, ◌*◌, ◌-◌, ◌<◌}
use mathlib.Core.Path.{sym, subst}
use native.Mathlib.Omega.{arith}
use Rattle.lists.specs.Span.{Span}
use Rattle.pool_text.specs.Text.{line_length, line_count, text_char}
use Rattle.pool_text.specs.Places.{lines_are, unit_in_lem, char_in}
use Rattle.pool_text.specs.WriteLoop.{writing_next, writing_done}
use Rattle.pool_text.proofs.write_lines.Goals as goal

pub write_line-requires : goal.write_line-requires
write_line-requires c = let y = c.args.y in
    let lines = lines_are y c.args.frames c.requires.1 in
    let l = c.loop-i in
    let i = l.here.i in
    let more : i < line_count y = omega (arith, lines) in
    let last = unit_in_lem y i more (y.u - 1) (omega (arith, c.requires.0.some_bytes)) in
    let end = char_in y i more (10 + 2 * y.u) (omega arith) in
    let b = l.invariant.1.begins_is in
    let a = l.invariant.1.at_is in
    (omega (arith, last, b, c.requires.2, c.requires.0.some_bytes), omega (arith, end, a, l.invariant.2.len, c.requires.3))

pub loop-i-preserved : goal.loop-i-preserved
loop-i-preserved c = let y = c.args.y in
    let lines = lines_are y c.args.frames c.requires.1 in
    let l = c.loop-i in
    let n = c.next_line-here.ensures in
    let q = n.1 in (
      omega (arith, lines, q),
      n.0,
      subst (λ (k : ℕ). Span (text_char y c.args.image.now) 0 (line_length y * k) c.args.text.now c.write_line.new.text) (sym q)
          (writing_next y c.args.image.now l.here l.invariant.1 l.invariant.2 c.write_line.ensures),
    )

pub returns : goal.returns
returns c = let y = c.args.y in
    let lines = lines_are y c.args.frames c.requires.1 in
    let l = c.loop-i in
    let i = l.here.i in
    writing_done y c.args.image.now i _ _ (let u = l.invariant.0 in omega (arith, lines, u)) c.requires.3 l.invariant.2
