-- `parity::slots`. The loop keeps: the units of the slots below j, and how many data units below j are missing.
use Rattle.std.proofs.Common.{◌≡◌, ◌<◌, ◌+◌, ℕ, refl, sym, arith, get_or}
use Rattle.lists.specs.Pick.{pick, pick_true, pick-false}
use Rattle.parity.specs.Matrix.{flag}
use Rattle.parity.specs.Restores.{lost_most}
use Rattle.parity.specs.Steps.{rank_lt}
use Rattle.parity.specs.Made.{is_lt, slot_made}
use Rattle.parity.proofs.Turns.{filled-none, filled-missing, filled-there}
use Rattle.parity.proofs.slots.Goals as goal
use Rattle.parity.proofs.slots.Goals.{then-miss-j, else-miss-j}

pub loop-j-init : goal.loop-j-init
loop-j-init c = (omega arith, filled-none _ _ _ refl)

pub bounds-there-c : goal.bounds-there-c
bounds-there-c c = let a = c.args in
    rank_lt (flag a.miss) a.n c.loop-j.j c.loop-j.invariant.1.count_is c.loop-j-test.true c.if-miss-j.true (lost_most a.n a.k (flag a.miss) c.requires)

pub offset_bounds-there-c : goal.offset_bounds-there-c
offset_bounds-there-c c = let h : c.loop-j.c < 3 = bounds-there-c c in omega arith

pub overflow_add-units : goal.overflow_add-units
overflow_add-units c = let a = c.args in
    let below = rank_lt (flag a.miss) a.n c.loop-j.j c.loop-j.invariant.1.count_is c.loop-j-test.true c.if-miss-j.true (lost_most a.n a.k (flag a.miss) c.requires) in
    let h : get_or c.there-there.result.at c.loop-j.c 0 < 3 = is_lt a.n a.k (flag a.miss) c.requires c.there-there.ensures c.loop-j.c below in
    omega (arith, c.requires.data_max)

pub overflow_add-c : goal.overflow_add-c
overflow_add-c c = let a = c.args in
    let h : c.loop-j.c < 3 = rank_lt (flag a.miss) a.n c.loop-j.j c.loop-j.invariant.1.count_is c.loop-j-test.true c.if-miss-j.true (lost_most a.n a.k (flag a.miss) c.requires) in
    omega arith

pub loop-j-preserved : goal.loop-j-preserved
loop-j-preserved c =
    let a = c.args in
    let l = c.loop-j in
    let m = flag a.miss in
    let fits : l.j < 16 = omega (arith, c.requires.data_max) in
    let made = λ (x : ℕ) (e : x ≡ pick (m l.j) (a.n + get_or c.there-there.result.at l.c 0) l.j).
    slot_made a.n a.k m c.requires l.j c.there-there.ensures c.loop-j-test.true l.invariant.1.count_is e in (
      omega arith,
      elim c.if-miss-j.branch [
        | then-miss-j w ↦ filled-missing l.invariant.1 fits (made _ (sym (pick_true (m l.j) _ l.j w.if-miss-j.true))) w.units-is w.if-miss-j.true w.c-is
        | else-miss-j w ↦ filled-there l.invariant.1 fits (made _ (sym (pick-false (m l.j) (a.n + get_or c.there-there.result.at l.c 0) l.j w.if-miss-j.false))) w.units-is w.if-miss-j.false w.c-is
      ],
    )

pub returns : goal.returns
returns c = λ j h. c.loop-j.invariant.1.done j (omega arith)
