-- `hex_text::write_number` meets its contract: the digits from place j on stand there, and the rest of the number has those before.
use mathlib.Core.Path.{refl, subst}
use Prim.Native.Nat.{◌+◌}
use native.Mathlib.Omega.{arith}
use Rattle.lists.specs.Span.{Span}
use Rattle.hex_text.specs.DigitsLaws.{hex_digit_from, rest_whole, none_written, number_write_turn, rest_turn, digits_put}
use Rattle.hex_text.proofs.write_number.Goals as goal

pub loop-j-init : goal.loop-j-init
loop-j-init c = (rest_whole c.args.n c.args.x, none_written c.args.n c.args.x c.args.at c.args.text.now)

pub loop-j-preserved : goal.loop-j-preserved
loop-j-preserved c = let l = c.loop-j in
    let a = c.args in (
      rest_turn a.n a.x a.at l.j c.loop-j-test.true (omega arith) l.invariant.0,
      number_write_turn a.n a.x a.at l.j _ c.loop-j-test.true (omega arith) (omega (arith, l.invariant.1.len)) l.invariant.0 refl c.last_digit.ensures l.invariant.1,
    )

pub returns : goal.returns
returns c = let l = c.loop-j in
    let a = c.args in
    digits_put a.n a.x a.at (subst (λ z. Span (hex_digit_from a.n a.x a.at) z (a.at + a.n) a.text.now l.text) (omega arith) l.invariant.1)
