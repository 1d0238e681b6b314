-- `pool_move::move_groups` meets its contract. The loop keeps: the groups below g are moved.
use mathlib.Core.Path.{◌≡◌, refl, sym, ◌∙◌}
use Prim.Native.Nat.{ℕ, ◌≤◌, ◌<◌}
use native.Mathlib.Omega.{arith}
use Rattle.moving.specs.FreshLaws.{unfailed-good}
use Rattle.pool_move.specs.Turns.{same_shape, ready, fresh_group, moves_begin, moves_turn, moves_end}
use Rattle.pool_move.proofs.move_groups.Goals as goal

-- a group, and few of them
turn : (g groups all : ℕ) → g < groups → groups ≡ all → groups ≤ 4194304 → (g < all) × (all ≤ 4194304)
turn g groups all l e h = (omega arith, omega arith)

pub begin-there-requires : goal.begin-there-requires
begin-there-requires c = let t = same_shape _ c.args.z c.requires.0.valid c.requires.2 in
    (t.valid, t.shaped _ c.shape_of-s.ensures)

pub loop-g-init : goal.loop-g-init
loop-g-init c = let t = same_shape _ c.args.z c.requires.0.valid c.requires.2 in
    (omega arith, c.begin-here.ensures, c.begin-there.ensures, moves_begin _ _ _ t.valid (c.requires.1 ∙ sym t.image_is))

pub next-there-requires : goal.next-there-requires
next-there-requires c =
    let few = turn _ _ _ c.loop-g-test.true c.numbers_of-numbers.ensures.groups_is c.numbers_of-numbers.ensures.groups-few in
    let t = same_shape _ c.args.z c.requires.0.valid c.requires.2 in
    (c.loop-g.invariant.2, t.valid, t.shaped _ c.shape_of-s.ensures, unfailed-good _ _, omega (arith, few, t.groups_are))

pub move_group-requires : goal.move_group-requires
move_group-requires c =
    let few = turn _ _ _ c.loop-g-test.true c.numbers_of-numbers.ensures.groups_is c.numbers_of-numbers.ensures.groups-few in
    let t = same_shape _ c.args.z c.requires.0.valid c.requires.2 in
    ready _ _ t c.args.r c.args.old.now c.requires.0 _ few.0 _ c.next-here.ensures.1 _ c.shape_of-s.ensures _ refl (unfailed-good _ _)
    c.next-there.result c.next-there.ensures.0 c.next-there.ensures.1 _ (c.loop-g.invariant.3.same ∙ c.requires.1)

pub loop-g-preserved : goal.loop-g-preserved
loop-g-preserved c =
    let few = turn _ _ _ c.loop-g-test.true c.numbers_of-numbers.ensures.groups_is c.numbers_of-numbers.ensures.groups-few in
    let t = same_shape _ c.args.z c.requires.0.valid c.requires.2 in
    let l = c.loop-g in (
      omega (arith, few),
      c.next-here.ensures.0,
      c.next-there.ensures.0,
      moves_turn _ _ _ l.g l.new l.invariant.3 _ (omega (arith, few, t.groups_are))
          (fresh_group _ _ t c.args.r c.args.old.now c.requires.0 _ few.0 _ c.next-here.ensures.1 _ _ c.move_group.ensures),
    )

pub returns : goal.returns
returns c = let n = c.numbers_of-numbers.ensures in
    moves_end _ _ _ _ _ c.loop-g.invariant.3 (omega (arith, c.loop-g-test.false, c.loop-g.invariant.0, n.groups_is, (same_shape _ c.args.z c.requires.0.valid c.requires.2).groups_are))
