-- `kernel::schedule::spread`. The loop keeps: the source stands in the lists of the digits below k. A turn is `spread_step`.
use mathlib.Core.Path.{◌∙◌}
use Prim.Native.Nat.{ℕ, ◌<◌, ◌≤◌}
use Rattle.std.specs.Prelude.{List}
use native.Mathlib.Nat.{le_refl, not-suc-le-zero}
use native.Mathlib.Omega.{arith}
use lib.ListN.{get_or, length-set}
use Rattle.kernel.specs.Fill.{Spread, spread_step}
use Rattle.kernel.proofs.schedule.spread.Goals as goal

-- the lists have room for one source more
room : {starts coefs list counts : List ℕ} {j k : ℕ} → k < 8 → Spread starts coefs j list counts k → get_or counts k 0 ≤ j
room h s = (s.left _ (le_refl _) h).few

pub loop-k-init : goal.loop-k-init
loop-k-init c = (omega arith, c.requires.0, c.requires.1, record { done = λ x h. absurd (not-suc-le-zero h); left = λ x g h. c.requires.3 x h })

pub overflow_add-list : goal.overflow_add-list
overflow_add-list c = omega (arith, room c.loop-k-test.true c.loop-k.invariant.3)

pub offset_bounds-list-k : goal.offset_bounds-list-k
offset_bounds-list-k c = omega (arith, room c.loop-k-test.true c.loop-k.invariant.3)

pub bounds-list-k : goal.bounds-list-k
bounds-list-k c = omega (arith, room c.loop-k-test.true c.loop-k.invariant.3)

pub overflow_add-counts : goal.overflow_add-counts
overflow_add-counts c = omega (arith, room c.loop-k-test.true c.loop-k.invariant.3)

pub loop-k-preserved : goal.loop-k-preserved
loop-k-preserved c = let a = c.args in
    let l = c.loop-k in (
      omega arith,
      length-set l.list _ _ ∙ l.invariant.1,
      length-set l.counts _ _ ∙ l.invariant.2,
      spread_step a.starts.now a.coefs.now a.j l.list l.counts l.k c.digit.result c.requires.2 l.invariant.1 l.invariant.2 c.loop-k-test.true c.digit.ensures.0 c.digit.ensures.1 l.invariant.3,
    )

pub returns : goal.returns
returns c = (c.loop-k.invariant.1, c.loop-k.invariant.2, λ x h. c.loop-k.invariant.3.done x (omega arith))
