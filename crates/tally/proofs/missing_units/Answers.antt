-- `tally::missing_units` meets its contract. The loop keeps: the contents on the targets passed, of which the repaired ones have none.
use Rattle.std.proofs.Common.{◌≡◌, ℕ, ◌+◌, ◌-◌, ◌<◌, List, take, drop, ap, ◌∙◌, arith, get_or-take, get_or-drop}
use Rattle.std.proofs.Math.Path.{subst⁻¹}
use Rattle.lists.specs.Tabulate.{at}
use Rattle.homes.specs.Records.{entry}
use Rattle.pool.specs.Counting.{on_target}
use Rattle.tally.specs.Walking.{Walking}
use Rattle.tally.specs.ByTargets.{on_first, count_begins, count_turn, count-done, can_walk, frames-few}
use Rattle.tally.proofs.missing_units.Goals as goal

-- a target of the part of the list from q on
passed : (failed : List ℕ) (q k i : ℕ) → i < k - q → at (take (k - q) (drop q failed)) i ≡ at failed (q + i)
passed failed q k i h = get_or-take (k - q) (drop q failed) i 0 h ∙ get_or-drop q failed i 0

pub loop-target-init : goal.loop-target-init
loop-target-init c = let p = c.requires in
    let none : c.args.r.q ≡ c.args.r.q + 0 = omega arith in
    (omega arith, count_begins _ p.0 _ p.1 ∙ ap (on_first c.args.y p.0 c.args.r p.1) none)

pub on_target-n-requires : goal.on_target-n-requires
on_target-n-requires c = let p = c.requires in
    let r = c.args.r in
    let i = c.loop-target.target-index in
    subst⁻¹ (Walking c.args.y c.shape_of-s.result r) (passed r.failed r.q r.k i (omega arith))
    (can_walk _ p.0 _ p.1 _ c.shape_of-s.ensures (r.q + i) (omega arith) (omega arith))

pub loop-target-preserved : goal.loop-target-preserved
loop-target-preserved c = let p = c.requires in
    let r = c.args.r in
    let i = c.loop-target.target-index in
    let next : r.q + i + 1 ≡ r.q + (i + 1) = omega arith in
    let here : c.on_target-n.result ≡ on_target c.args.y r (entry r (r.q + i)) =
    c.on_target-n.ensures.0 ∙ ap (on_target c.args.y r) (passed r.failed r.q r.k i (omega arith)) in (
      omega (arith, c.loop-target.invariant.0, c.on_target-n.ensures.1, frames-few _ p.0 _ p.1),
      count_turn _ p.0 _ p.1 (r.q + i) _ _ c.loop-target.invariant.1 here ∙ ap (on_first c.args.y p.0 r p.1) next,
    )

pub returns : goal.returns
returns c = let p = c.requires in
    count-done _ p.0 _ p.1 (c.args.r.q + c.loop-target.target-index) _ c.loop-target.invariant.1 (omega (arith, p.1.mended))
