-- `parity::Group::solved_rows`. The loop keeps: the rows of the lost data units, and those of the parity units below q. What the calls work out is
-- what the rules say (`rows_made`).
use Rattle.std.proofs.Common.{◌≡◌, ◌<◌, ◌-◌, ℕ, List, ap, ◌∙◌, arith, get_or, length-set}
use Rattle.systems.specs.Matrix.{ent, three_of}
use Rattle.parity.specs.Matrix.{flag, parity_coef}
use Rattle.parity.specs.Restores.{lost_most}
use Rattle.parity.specs.Made.{gone_most, is_lt, ks_lt, parity_unit, rows_made}
use Rattle.parity.proofs.Turns.{row_turn, row_stays}
use Rattle.parity.proofs.Group.solved_rows.Goals as goal

pub system-requires : goal.system-requires
system-requires c = let g = c.args.self.now in
    (is_lt g.n g.k (flag g.miss) g.solvable c.there.ensures, ks_lt g.n g.k (flag g.miss) g.solvable c.lost-lost.ensures)

pub lost_rows-lines-requires : goal.lost_rows-lines-requires
lost_rows-lines-requires c = let g = c.args.self.now in
    (omega (arith, lost_most g.n g.k (flag g.miss) g.solvable, c.lost-lost.ensures.count_is), is_lt g.n g.k (flag g.miss) g.solvable c.there.ensures)

pub bounds-gone-q : goal.bounds-gone-q
bounds-gone-q c = let g = c.args.self.now in omega (arith, gone_most g.n g.k (flag g.miss) g.solvable, c.requires.count_is)

pub offset_bounds-gone-q : goal.offset_bounds-gone-q
offset_bounds-gone-q c = let h : c.loop-q.q < 3 = bounds-gone-q c in omega arith

pub overflow_sub-gone : goal.overflow_sub-gone
overflow_sub-gone c = let g = c.args.self.now in
    (parity_unit g.n g.k (flag g.miss) g.solvable c.requires c.lost-lost.ensures c.loop-q.q
    (omega (arith, gone_most g.n g.k (flag g.miss) g.solvable, c.requires.count_is)) c.loop-q.invariant.from c.loop-q-test.true).0

pub parity_row-requires : goal.parity_row-requires
parity_row-requires c =
    let g = c.args.self.now in
    let u = parity_unit g.n g.k (flag g.miss) g.solvable c.requires c.lost-lost.ensures c.loop-q.q
    (omega (arith, gone_most g.n g.k (flag g.miss) g.solvable, c.requires.count_is)) c.loop-q.invariant.from c.loop-q-test.true in
    (omega (arith, u.0, u.1), ks_lt g.n g.k (flag g.miss) g.solvable c.lost-lost.ensures)

pub bounds-rows-q : goal.bounds-rows-q
bounds-rows-q c = let g = c.args.self.now in omega (arith, gone_most g.n g.k (flag g.miss) g.solvable, c.requires.count_is)

pub offset_bounds-rows-q : goal.offset_bounds-rows-q
offset_bounds-rows-q c = let h : c.loop-q.q < 3 = bounds-rows-q c in omega arith

pub loop-q-preserved : goal.loop-q-preserved
loop-q-preserved c =
    let g = c.args.self.now in
    let l = c.loop-q in
    let fits : l.q < 3 = bounds-rows-q c in
    record {
      from = omega arith;
      len = length-set l.rows l.q _ ∙ l.invariant.len;
      data_rows = λ x h. row_stays l.rows l.q c.parity_row.result x (λ (e : x ≡ l.q). omega (arith, l.invariant.from)) ∙ l.invariant.data_rows x h;
      done = row_turn
          (λ x row. (j : ℕ) → j < g.n → get_or row j 0
          ≡ parity_coef c.lost-lost.result.at (three_of (λ r. ent c.lost_rows-lines.result r j)) (flag g.miss j) (get_or c.args.gone.at x 0 - g.n) j)
          l.rows c.lost-lost.result.count l.q c.parity_row.result (omega (arith, l.invariant.len)) c.parity_row.ensures l.invariant.done;
    }

pub returns : goal.returns
returns c =
    let g = c.args.self.now in
    let l = c.loop-q in
    rows_made g.n g.k (flag g.miss) g.solvable c.there.ensures c.lost-lost.ensures c.system.result c.inverse-inverse.result c.system.ensures
    c.inverse-inverse.ensures c.lost_rows-lines.result c.lost_rows-lines.ensures c.requires l.rows
    (λ q h j i. ap (λ (row : List ℕ). get_or row j 0) (l.invariant.data_rows q h))
    (λ q h k j i. l.invariant.done q h (omega arith) j i)
