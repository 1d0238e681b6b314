-- `pool_list::write_ranges`. Before range i those before it are written, one after the other, and their bytes are passed.
use mathlib.Core.Path.{refl, ap, ◌∙◌, subst⁻¹}
use native.Mathlib.Omega.{arith}
use lib.ListN.{length}
use Rattle.lists.specs.Count.{sum}
use Rattle.pool.specs.Asked.{Sound}
use Rattle.pool_list.specs.Ranges.{after_ranges}
use Rattle.pool_list.proofs.StepsLaws.{after-length, next_from, part-ends, range_fits, range_next}
use Rattle.pool_list.proofs.write_ranges.Goals as goal

pub loop-i-init : goal.loop-i-init
unfolding after_ranges sum
loop-i-init c = (refl, refl, omega arith)

pub overflow_add-end : goal.overflow_add-end
overflow_add-end c = omega (arith, part-ends _ _ c.args.image.now _ c.args.bytes.now c.requires _ c.loop-i-test.true _ c.loop-i.invariant.1)

pub slice_bounds-write_range-end : goal.slice_bounds-write_range-end
slice_bounds-write_range-end c = part-ends _ _ c.args.image.now _ c.args.bytes.now c.requires _ c.loop-i-test.true _ c.loop-i.invariant.1

pub write_range-requires : goal.write_range-requires
write_range-requires c =
    let w = c.loop-i.invariant in let i = c.loop-i.i in (
      subst⁻¹ (Sound c.args.y c.args.r) (ap length w.0 ∙ after-length _ _ _ _ _ i) c.requires.sound,
      range_fits _ _ c.args.image.now _ c.args.bytes.now c.requires i c.loop-i-test.true _ w.1,
    )

pub loop-i-preserved : goal.loop-i-preserved
loop-i-preserved c =
    let w = c.loop-i.invariant in let i = c.loop-i.i in let more = c.loop-i-test.true in (
      range_next _ _ c.args.image.now _ c.args.bytes.now c.requires i more _ w.1 _ _ w.0 c.write_range.ensures,
      next_from _ _ c.args.image.now _ c.args.bytes.now c.requires i more _ w.1,
      omega (arith, more),
    )

pub shape_of-image : goal.shape_of-image
shape_of-image c = ap length c.loop-i.invariant.0 ∙ after-length _ _ _ _ _ c.loop-i.i

pub returns : goal.returns
returns c = c.loop-i.invariant.0 ∙ ap (after_ranges _ _ _ _ _) (omega (arith, c.loop-i.invariant.2, c.loop-i-test.false))
