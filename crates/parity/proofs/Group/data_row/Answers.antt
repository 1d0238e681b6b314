-- `parity::Group::data_row`. The loop keeps: the coefficients of the slots below j, and how many data units below j are missing.
use Rattle.std.proofs.Common.{◌<◌, ℕ, refl, sym, ap, ◌∙◌, arith, get_or}
use Rattle.lists.specs.Pick.{pick_true, pick-false}
use Rattle.lists.specs.Count.{count}
use Rattle.parity.specs.Matrix.{flag}
use Rattle.parity.specs.Restores.{lost_most}
use Rattle.parity.specs.Steps.{slot_from, slot_by_lines, rank_lt}
use Rattle.parity.proofs.Turns.{filled-none, filled-missing, filled-there}
use Rattle.parity.proofs.Group.data_row.Goals as goal
use Rattle.parity.proofs.Group.data_row.Goals.{then-self-j, else-self-j}

pub loop-j-init : goal.loop-j-init
loop-j-init c = (omega arith, filled-none _ _ _ refl)

pub bounds-weights-c : goal.bounds-weights-c
bounds-weights-c c = let g = c.args.self.now in
    rank_lt (flag g.miss) g.n c.loop-j.j c.loop-j.invariant.1.count_is c.loop-j-test.true c.if-self-j.true (lost_most g.n g.k (flag g.miss) g.solvable)

pub overflow_add-c : goal.overflow_add-c
overflow_add-c c = let h : c.loop-j.c < 3 = bounds-weights-c c in omega arith

pub loop-j-preserved : goal.loop-j-preserved
loop-j-preserved c =
    let a = c.args in
    let g = c.args.self.now in
    let l = c.loop-j in
    let m = flag g.miss in
    let fits : l.j < 16 = omega (arith, g.solvable.data_max) in
    let here = ap (λ (r : ℕ). slot_from a.weights c.coefs_of-lines.result (m l.j) r l.j) l.invariant.1.count_is in (
      omega arith,
      elim c.if-self-j.branch [
        | then-self-j w ↦ filled-missing l.invariant.1 fits (sym (pick_true (m l.j) (get_or a.weights l.c 0) _ w.if-self-j.true) ∙ here) w.row-is w.if-self-j.true w.c-is
        | else-self-j w ↦ filled-there l.invariant.1 fits (w.dot.ensures ∙ sym (pick-false (m l.j) _ _ w.if-self-j.false) ∙ here) w.row-is w.if-self-j.false w.c-is
      ],
    )

pub returns : goal.returns
returns c = λ j h.
    let a = c.args in
    let g = c.args.self.now in
    let m = flag g.miss in
    c.loop-j.invariant.1.done j (omega arith)
    ∙ slot_by_lines a.weights a.is c.coefs_of-lines.result (m j) (count m j) j (λ r k. c.coefs_of-lines.ensures r k j (omega (arith, g.solvable.data_max)))
