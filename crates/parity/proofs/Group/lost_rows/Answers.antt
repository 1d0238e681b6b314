-- `parity::Group::lost_rows`. The loop keeps: the rows below c are right, the others are zeros.
use Rattle.std.proofs.Common.{◌≡◌, ◌≤◌, ◌<◌, ℕ, List, ap, sym, ◌∙◌, arith, get_or, length-set, lt-ltb, le-ltb}
use Rattle.lists.specs.Pick.{pick_true, pick-false, below_or_not}
use Rattle.lists.specs.Count.{count}
use lib.Dec.{ltb}
use Rattle.parity.specs.Matrix.{flag, slot_coef, lost_coef}
use Rattle.parity.proofs.Turns.{row_turn, row_stays, row_of_zeros}
use Rattle.parity.proofs.Group.lost_rows.Goals as goal

pub loop-c-preserved : goal.loop-c-preserved
unfolding lost_coef
loop-c-preserved c =
    let a = c.args in
    let l = c.loop-c in
    let m = flag a.self.now.miss in
    let fits : l.c < 3 = omega arith in
    record {
      within = omega arith;
      len = length-set l.rows l.c _ ∙ l.invariant.len;
      done = row_turn (λ x row. (j : ℕ) → j < a.self.now.n → get_or row j 0 ≡ lost_coef a.m a.is a.d m x j) l.rows 0 l.c c.data_row.result
          (omega (arith, l.invariant.len))
          (λ j h. c.data_row.ensures j h ∙ ap (λ (w : List ℕ). slot_coef w a.is (m j) (count m j) j) c.weights.ensures
          ∙ sym (pick_true (ltb l.c a.d) _ 0 (lt-ltb l.c a.d c.loop-c-test.true)))
          l.invariant.done;
      zeros = λ x h. row_stays l.rows l.c c.data_row.result x (λ (e : x ≡ l.c). omega arith) ∙ l.invariant.zeros x (omega arith);
    }

pub returns : goal.returns
unfolding lost_coef
returns c = λ x h j i.
    let a = c.args in
    let l = c.loop-c in
    below_or_not x a.d (λ (b : x < a.d). l.invariant.done x (omega arith) (omega arith) j i)
    (λ (b : a.d ≤ x). ap (λ (row : List ℕ). get_or row j 0) (l.invariant.zeros x (omega arith)) ∙ row_of_zeros x j
    ∙ sym (pick-false (ltb x a.d) _ 0 (le-ltb x a.d b)))
