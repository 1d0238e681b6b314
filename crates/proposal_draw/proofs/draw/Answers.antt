-- `proposal_draw::draw` meets its contract. The loop keeps: the permutation in hand is its tile's, and the entries of the groups passed are written
-- (`PlanTo`); while numbers are wanted a group is left.
use native.Mathlib.Omega.{arith}
use Rattle.proposal_draw.specs.Drawn.{plan_begin, group_left, plan_turn, plan_end}
use Rattle.proposal_draw.proofs.draw.Goals as goal

pub loop-at-init : goal.loop-at-init
loop-at-init c = (c.permutation-to.ensures, plan_begin _ _ _)

pub draw_group-at-requires : goal.draw_group-at-requires
draw_group-at-requires c = let p = c.requires in
    let i = c.loop-at.invariant.1 in (
      p.1,
      record { valid = p.0; shape = c.shape_of-s.ensures; tile = c.tile_to-to.ensures; group = group_left _ _ _ _ _ _ c.loop-at.invariant.1 _ c.requires.2 c.loop-at-test.true },
      omega (arith, p.2, p.3, i.written.len),
      i.next_is,
    )

pub loop-at-smaller : goal.loop-at-smaller
loop-at-smaller c = omega (arith, group_left _ _ _ _ _ _ c.loop-at.invariant.1 _ c.requires.2 c.loop-at-test.true)

pub loop-at-preserved : goal.loop-at-preserved
loop-at-preserved c = let e = c.draw_group-at.ensures in
    (c.tile_to-to.ensures, plan_turn _ _ _ _ _ _ c.loop-at.invariant.1 (group_left _ _ _ _ _ _ c.loop-at.invariant.1 _ c.requires.2 c.loop-at-test.true) _ _ e.0 e.1)

pub returns : goal.returns
returns c = plan_end _ _ _ _ _ _ c.loop-at.invariant.1 _ c.requires.2 c.requires.3 c.loop-at-test.false
