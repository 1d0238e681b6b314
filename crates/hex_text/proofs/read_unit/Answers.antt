-- `hex_text::read_unit` meets its contract: before byte o, the largest value says whether the first 2o characters are digits.
use mathlib.Core.Path.{refl}
use native.Mathlib.Omega.{arith}
use Rattle.lists.specs.Span.{span_none}
use Rattle.hex_text.specs.RunLaws.{digits_none, digits_turn, bytes_turn}
use Rattle.hex_text.proofs.read_unit.Goals as goal

pub loop-o-init : goal.loop-o-init
loop-o-init c = (digits_none c.args.text.now c.args.from, span_none _ _ _ (omega arith))

pub loop-o-preserved : goal.loop-o-preserved
loop-o-preserved c = let l = c.loop-o in
    let text = c.args.text.now in
    let from = c.args.from in
    let high = c.digit_or_16-high.ensures in
    let low = c.digit_or_16-low.ensures in (
      digits_turn text from l.o l.worst high low c.max.ensures c.max-worst.ensures l.invariant.0,
      bytes_turn text from l.o c.args.begins _ high low refl (omega (arith, l.invariant.1.len)) refl l.invariant.1,
    )
