-- `pool_repair::mend_groups` meets its contract. The loop keeps: the groups below g are repaired, and so many contents were missing in them.
use mathlib.Core.Path.{◌≡◌, ◌∙◌}
use Prim.Native.Nat.{ℕ, ◌≤◌, ◌<◌}
use native.Mathlib.Omega.{arith}
use Rattle.numbers.specs.declared.Layout.{Layout}
use Rattle.numbers.specs.Layouts.{all_groups}
use Rattle.pool_repair.specs.MendingLaws.{gone-here, few-gone, mend_begin, mend_turn, mend_end}
use Rattle.pool_repair.proofs.mend_groups.Goals as goal

-- a group, and few of them
turn : (y : Layout) (g groups : ℕ) → g < groups → groups ≡ all_groups y → groups ≤ 4194304 → (g < all_groups y) × (all_groups y ≤ 4194304)
turn y g groups below is few = (omega (arith, below, is), omega (arith, is, few))

pub shape_of-s-requires : goal.shape_of-s-requires
shape_of-s-requires c = c.requires.valid

pub numbers_of-numbers-requires : goal.numbers_of-numbers-requires
numbers_of-numbers-requires c = c.requires.valid

pub begin-survey-requires : goal.begin-survey-requires
begin-survey-requires c = (c.requires.valid, c.shape_of-s.ensures)

pub loop-g-init : goal.loop-g-init
loop-g-init c = (omega arith, c.begin-survey.ensures, mend_begin _ _ _ c.requires)

pub next-survey-requires : goal.next-survey-requires
next-survey-requires c = (
  c.loop-g.invariant.1,
  c.requires.valid,
  c.shape_of-s.ensures,
  c.requires.good,
  (turn c.args.y _ _ c.loop-g-test.true c.numbers_of-numbers.ensures.groups_is c.numbers_of-numbers.ensures.groups-few).0,
)

pub mend_group-requires : goal.mend_group-requires
mend_group-requires c = let sound = c.requires in (
  record {
    valid = sound.valid;
    shape = c.shape_of-s.ensures;
    good = sound.good;
    group = (turn c.args.y _ _ c.loop-g-test.true c.numbers_of-numbers.ensures.groups_is c.numbers_of-numbers.ensures.groups-few).0;
    surveying = c.next-survey.ensures.0;
    surveyed = c.next-survey.ensures.1;
  },
  c.loop-g.invariant.2.same ∙ sound.len_is,
)

pub overflow_add-count : goal.overflow_add-count
overflow_add-count c = let sound = c.requires in
    omega (
      arith,
      c.loop-g.invariant.2.few,
      few-gone _ sound.valid c.args.r sound.good _ _ c.next-survey.ensures.1,
      turn c.args.y _ _ c.loop-g-test.true c.numbers_of-numbers.ensures.groups_is c.numbers_of-numbers.ensures.groups-few,
    )

pub loop-g-preserved : goal.loop-g-preserved
loop-g-preserved c = let sound = c.requires in (
  omega (arith, turn c.args.y _ _ c.loop-g-test.true c.numbers_of-numbers.ensures.groups_is c.numbers_of-numbers.ensures.groups-few),
  c.next-survey.ensures.0,
  mend_turn _ _ _ _ _ _ c.loop-g.invariant.2 _ _ (turn c.args.y _ _ c.loop-g-test.true c.numbers_of-numbers.ensures.groups_is c.numbers_of-numbers.ensures.groups-few).0
      (gone-here _ sound.valid c.args.r sound.good _ _ c.next-survey.ensures.1) c.mend_group.ensures,
)

pub shape_of-image : goal.shape_of-image
shape_of-image c = c.loop-g.invariant.2.same

pub returns : goal.returns
returns c = mend_end _ _ _ _ _ _ c.loop-g.invariant.2 (omega (arith, c.loop-g-test.false, c.loop-g.invariant.0, c.numbers_of-numbers.ensures.groups_is))
