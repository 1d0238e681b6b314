-- `pool_swap::swap_groups`. The loop keeps: the permutation in hand is its tile's, and the contents of the groups passed have moved.
use mathlib.Core.Path.{◌≡◌, refl, ap, ◌∙◌, subst⁻¹}
use Prim.Native.Nat.{ℕ, ◌≤◌, ◌<◌}
use native.Mathlib.Omega.{arith}
use borrow.Author.Rules.{rules}
use lib.ListN.{length}
use Rattle.homes.specs.Records.{Good}
use Rattle.swapping.specs.SwapLaws.{few-entries, some_entry, less_good}
use Rattle.pool_swap.specs.Groups.{swapped_begin, swapped_length, group_movable, swapped_turn, swapped_end}
use Rattle.pool_swap.proofs.swap_groups.Goals as goal

-- a group, and few of them
turn : (g groups all : ℕ) → g < groups → groups ≡ all → groups ≤ 4194304 → (g < all) × (all ≤ 4194304)
turn g groups all l e h = (omega arith, omega arith)

pub without-less-requires : goal.without-less-requires
without-less-requires c = let a = c.requires in
    let some = some_entry _ _ _ a in
    (some, few-entries _ _ _ a, omega (arith, some, a.repaired))

pub loop-g-init : goal.loop-g-init
loop-g-init c = (omega arith, refl, refl, c.permutation-to.ensures, swapped_begin _ _ _ _ c.requires)

pub shift_of-shift-requires : goal.shift_of-shift-requires
shift_of-shift-requires c =
    let few = turn _ _ _ c.loop-g-test.true c.numbers_of-numbers.ensures.groups_is c.numbers_of-numbers.ensures.groups-few in
    let a = c.requires in (
      a.sound.good,
      subst⁻¹ (Good _) c.without-less.ensures (less_good _ _ _ a),
      record { valid = a.sound.valid; shape = c.shape_of-s.ensures; tile = c.tile_to-to.ensures; group = few.0 },
    )

pub move_units-requires : goal.move_units-requires
move_units-requires c =
    let few = turn _ _ _ c.loop-g-test.true c.numbers_of-numbers.ensures.groups_is c.numbers_of-numbers.ensures.groups-few in
    let l = c.loop-g in (
      group_movable _ _ _ c.args.image.now c.requires _ few.0
          c.shift_of-shift.result _ c.without-less.ensures c.shift_of-shift.ensures (length l.image) l.invariant.1,
      l.invariant.2,
    )

pub loop-g-preserved : goal.loop-g-preserved
loop-g-preserved c =
    let few = turn _ _ _ c.loop-g-test.true c.numbers_of-numbers.ensures.groups_is c.numbers_of-numbers.ensures.groups-few in
    let a = c.requires in
    let l = c.loop-g in
    let e = swapped_turn _ _ _ _ a _ few.0
    c.shift_of-shift.result _ c.without-less.ensures c.shift_of-shift.ensures l.image _ l.invariant.4 c.move_units.ensures in
    (omega (arith, few), ap length e ∙ swapped_length _ _ _ _ a _, search rules, c.tile_to-to.ensures, e)

pub returns : goal.returns
returns c = (
  c.without-less.ensures,
  swapped_end _ _ _ _ c.requires _ _ c.loop-g.invariant.4
      (omega (arith, c.loop-g.invariant.0, c.loop-g-test.false, c.numbers_of-numbers.ensures.groups_is)),
)
