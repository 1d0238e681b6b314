-- `parity::Group::parity_row`. The loop keeps: the coefficients of the slots below j.
use Rattle.std.proofs.Common.{◌≡◌, ◌∙◌, arith, get_or, length-set}
use Rattle.lists.specs.Tabulate.{fill_step}
use Rattle.parity.specs.Matrix.{flag}
use Rattle.parity.specs.Steps.{parity_from, parity_by_rows, parity_coef_missing, parity_coef-there}
use Rattle.parity.proofs.Group.parity_row.Goals as goal
use Rattle.parity.proofs.Group.parity_row.Goals.{then-self-j, else-self-j}

pub loop-j-preserved : goal.loop-j-preserved
loop-j-preserved c =
    let a = c.args in
    let l = c.loop-j in
    let m = flag a.self.now.miss in
    let coefficient : c.if-self-j.row ≡ parity_from c.row-own.result c.coefs_across-across.result a.lines (m l.j) l.j =
    elim c.if-self-j.branch [
      | then-self-j w ↦ w.row-is ∙ parity_coef_missing (m l.j) (get_or c.row-own.result l.j 0) c.dot-brought.ensures w.if-self-j.true
      | else-self-j w ↦ w.row-is ∙ parity_coef-there (m l.j) (get_or c.row-own.result l.j 0) c.dot-brought.ensures w.if-self-j.false
    ] in
    record {
      within = omega arith;
      len = length-set l.row l.j _ ∙ l.invariant.len;
      done = fill_step (λ x. parity_from c.row-own.result c.coefs_across-across.result a.lines (m x) x) l.row l.j _ 0
          (omega (arith, l.invariant.len, a.self.now.solvable.data_max)) coefficient l.invariant.done;
    }

pub returns : goal.returns
returns c = λ j h.
    let a = c.args in
    c.loop-j.invariant.done j (omega arith)
    ∙ parity_by_rows a.ks c.row-own.result c.coefs_across-across.result a.lines (flag a.self.now.miss j) a.i j
    (c.row-own.ensures j (omega (arith, a.self.now.solvable.data_max))) c.coefs_across-across.ensures
