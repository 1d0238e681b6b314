-- `parity::rows`. The lowest missing unit and their number tell which rows are known beforehand: those of parity units alone (`own-rows`), and the
-- ones of a plain sum (`plain_rows`).
use Rattle.std.proofs.Common.{[], ◌∷◌, replicate, arith}
use Rattle.parity.specs.Matrix.{flag}
use Rattle.parity.specs.Made.{gone_most}
use Rattle.parity.specs.Own.{own_units, own-rows, one-gone, one-lost, parity_there}
use Rattle.parity.specs.Closing.{plain_rows}
use Rattle.parity.proofs.rows.Goals as goal

pub own_rows-requires : goal.own_rows-requires
own_rows-requires c =
    (omega (arith, gone_most _ _ _ c.requires, c.gone-gone.ensures.count_is), own_units _ _ _ c.requires c.gone-gone.ensures c.if-n-gone.true)

pub returns-then-n-gone : goal.returns-then-n-gone
returns-then-n-gone c = own-rows _ _ _ c.requires c.gone-gone.ensures c.if-n-gone.true c.own_rows.result (λ q k. c.own_rows.ensures q)

pub returns-then-gone-eq1 : goal.returns-then-gone-eq1
returns-then-gone-eq1 c = let a = c.args in
    let s = c.requires in
    let h = c.gone-gone.ensures in
    let low = c.if-n-gone.false in
    let one = c.if-gone-eq1.true in
    plain_rows a.n a.k (flag a.miss) s (one-lost _ _ _ s h low one) (parity_there _ _ _ s h low one) (one-gone _ _ _ s h low one)
    (replicate 16 0 ∷ replicate 16 0 ∷ [])
