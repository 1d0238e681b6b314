-- `coding::rebuild`. Where the one missing unit is the plain sum, one turn of `closing_turn` comes to the whole; else `fill_all` does.
use Rattle.std.proofs.Common.{◌≡◌, ◌<◌, arith}
use Rattle.parity.specs.Restores.{lost_most}
use Rattle.parity.specs.Matrix.{flag}
use Rattle.parity.specs.Made.{gone_most}
use Rattle.coding.specs.Closing.{closing_of, is_due}
use Rattle.coding.specs.Mending.{mend_none, closing_data, parity_fits, closing_turn, mend_all}
use Rattle.coding.proofs.rebuild.Goals as goal

pub missing_below-gone-requires : goal.missing_below-gone-requires
missing_below-gone-requires c =
    let a = c.args in
    (omega (arith, c.requires.0.data_max, c.requires.0.parity_max), gone_most a.n a.k (flag a.miss) c.requires.0)

pub closing-last-requires : goal.closing-last-requires
closing-last-requires c = (c.requires.0.data_max, lost_most c.args.n c.args.k (flag c.args.miss) c.requires.0)

pub fill_last-requires : goal.fill_last-requires
fill_last-requires c =
    let p = c.requires in
    let old = c.args.buf.now in
    let none_yet = mend_none p.0 p.1 old p.2 in
    let one : 0 < c.missing_below-gone.result.count = omega arith in
    let due : 1 ≡ closing_of c.args.n (flag c.args.miss) = is_due _ 0 _ _ c.eq.ensures c.if-eq.true c.closing-last.ensures in (
      p.0.data_max,
      closing_data p.0 p.1 old p.2 none_yet c.missing_below-gone.ensures one due,
      parity_fits p.0 p.1 old p.2 none_yet c.missing_below-gone.ensures one due,
    )

pub returns-then-eq : goal.returns-then-eq
returns-then-eq c =
    let p = c.requires in
    let old = c.args.buf.now in
    let none_yet = mend_none p.0 p.1 old p.2 in
    let found = c.missing_below-gone.ensures in
    let one : 0 < c.missing_below-gone.result.count = omega arith in
    let due : 1 ≡ closing_of c.args.n (flag c.args.miss) = is_due _ 0 _ _ c.eq.ensures c.if-eq.true c.closing-last.ensures in
    mend_all p.0 p.1 old p.2 (closing_turn p.0 p.1 old p.2 none_yet found one due (λ y. omega (arith, c.slice_known-1.given y)) c.fill_last.ensures) (omega (arith, found.count_is))
