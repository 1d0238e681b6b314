-- `plan::ranks`. The loop keeps: the ranks below i, and how many contents below i are missing.
use mathlib.Core.Path.{refl, sym, ap₂, ◌∙◌}
use Prim.Native.Nat.{◌+◌}
use native.Mathlib.Nat.{not-suc-le-zero}
use native.Mathlib.Omega.{arith}
use lib.ListN.{length-set}
use Rattle.lists.specs.Count.{count, count-le, count_next}
use Rattle.lists.specs.Pick.{bit_le}
use Rattle.lists.specs.Tabulate.{fill_step}
use Rattle.parity.specs.Matrix.{flag}
use Rattle.plan.specs.Steps.{from_bool_bit}
use Rattle.plan.proofs.ranks.Goals as goal

pub loop-i-init : goal.loop-i-init
unfolding count
loop-i-init c = (omega arith, refl, refl, λ x h. absurd (not-suc-le-zero h))

pub overflow_add-c : goal.overflow_add-c
overflow_add-c c = let l = c.loop-i in omega (arith, c.from-c.ensures, from_bool_bit (flag c.args.miss l.i), l.invariant.2, count-le (flag c.args.miss) l.i, bit_le (flag c.args.miss l.i))

pub loop-i-preserved : goal.loop-i-preserved
loop-i-preserved c = let l = c.loop-i in
    let miss = flag c.args.miss in (
      omega arith,
      length-set l.r l.i _ ∙ l.invariant.1,
      ap₂ ◌+◌ l.invariant.2 (c.from-c.ensures ∙ from_bool_bit (miss l.i)) ∙ sym (count_next miss l.i),
      fill_step (count miss) l.r l.i _ 0 (omega arith) l.invariant.2 l.invariant.3,
    )

pub returns : goal.returns
returns c = λ i h. c.loop-i.invariant.3 i (omega arith)
