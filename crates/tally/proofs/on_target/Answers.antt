-- `tally::on_target` meets its contract. The loop keeps: the homes in the tiles passed.
use mathlib.Core.Path.{◌≡◌, refl, ap, sym, ◌∙◌}
use Prim.Native.Nat.{◌+◌}
use native.Mathlib.Omega.{arith}
use Rattle.lists.specs.Count.{sum, sum_next}
use Rattle.pool.specs.Counting.{on_target}
use Rattle.tally.specs.Walking.{in_tile_of}
use Rattle.tally.specs.WalkLaws.{tiles_done, walk-few}
use Rattle.tally.proofs.on_target.Goals as goal

pub loop-tile-init : goal.loop-tile-init
unfolding sum
loop-tile-init c = (omega arith, omega arith, refl)

pub overflow_add-n : goal.overflow_add-n
overflow_add-n c = let p = c.requires in
    omega (arith, c.loop-tile.invariant, c.loop-tile-test.true, c.in_tile-n.ensures.1, p.shape.l_few, p.valid.few_tiles)

pub loop-tile-preserved : goal.loop-tile-preserved
loop-tile-preserved c = let p = c.requires in
    let i = c.loop-tile.invariant in
    let e = c.in_tile-n.ensures in (
      omega (arith, c.loop-tile-test.true),
      omega (arith, i.1, e.1, p.shape.l_few),
      (λ j. i.2 j + e.0 j) ∙ sym (sum_next (in_tile_of c.args.y c.args.r c.args.target) c.loop-tile.tile),
    )

pub returns : goal.returns
returns c = let p = c.requires in
    let i = c.loop-tile.invariant in
    let a = c.args in
    let z : c.loop-tile.tile ≡ a.y.t = omega arith in
    let e : c.loop-tile.n ≡ on_target a.y a.r a.target = i.2 ∙ ap (sum (in_tile_of a.y a.r a.target)) z ∙ tiles_done _ _ _ _ p in
    (e, omega (arith, e, walk-few _ _ _ _ p))
