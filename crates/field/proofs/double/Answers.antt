-- `field::double`: on each way of the choice the number is the rule's.
use mathlib.Core.Path.{ap, ◌∙◌}
use Prim.Native.Nat.{◌*◌, ◌%◌}
use native.Mathlib.Omega.{arith}
use lib.Bits.{bit_xor}
use borrow.Author.Rules.{rules}
use Rattle.field.specs.Laws.{double_high, double-low}
use Rattle.field.proofs.double.Goals as goal
use Rattle.field.proofs.double.Goals.{then-a-gt127, else-a-gt127}

pub returns : goal.returns
returns c = let a = c.args in
    elim c.if-a-gt127.branch [
      | then-a-gt127 w ↦ ap (bit_xor (a.a * 2 % 256)) w.over-is ∙ double_high a.a (search rules) w.if-a-gt127.true
      | else-a-gt127 w ↦ ap (bit_xor (a.a * 2 % 256)) w.over-is ∙ double-low a.a (omega arith)
    ]
