-- `range_write::write_range`. The loop keeps: the named groups below g are written, and the survey goes on.
use mathlib.Core.Path.{◌≡◌, sym}
use Prim.Native.Nat.{ℕ, ◌+◌, ◌*◌, ◌/◌, ◌%◌, ◌<◌, min}
use native.Mathlib.Omega.{arith}
use Rattle.std.proofs.Common.{subst}
use Rattle.numbers.specs.declared.Layout.{Layout}
use Rattle.numbers.specs.Layouts.{Valid}
use Rattle.numbers.specs.Shapes.{layout_products}
use Rattle.place.specs.ByteLaws.{data_bytes}
use Rattle.pool.proofs.ChangesLaws.{written_none}
use Rattle.groups.specs.Walk.{begins_before, begins_after}
use Rattle.range_write.specs.Underway.{data_span, span_few, Underway, underway-start, group_inside, fits_here, apart_here, named_here, underway_next, underway-done}
use Rattle.range_write.proofs.write_range.Goals as goal

-- the group of a turn begins before the end
more : (y : Layout) → Valid y → (g end n : ℕ) → n ≡ end / data_span y + min 1 (end % data_span y) → g < n → data_span y * g < end
more y v g end n is = begins_before (data_span y) g end n (data_bytes y v) is

pub returns-then-bytes-eq0 : goal.returns-then-bytes-eq0
returns-then-bytes-eq0 c = sym (written_none _ _ _ _ c.args.bytes.now (omega (arith, c.if-bytes-eq0.true)))

pub shape_of-s-requires : goal.shape_of-s-requires
shape_of-s-requires c = c.requires.0.valid

pub overflow_mul-span : goal.overflow_mul-span
overflow_mul-span c = omega (arith, span_few _ c.requires.0.valid)

pub overflow_add-end : goal.overflow_add-end
overflow_add-end c = omega (arith, (layout_products _ c.requires.0.valid).capacity, c.requires.1)

pub nonzero_div-first : goal.nonzero_div-first
nonzero_div-first c = data_bytes _ c.requires.0.valid

pub begin-survey-requires : goal.begin-survey-requires
begin-survey-requires c = (c.requires.0.valid, c.shape_of-s.ensures)

pub loop-g-init : goal.loop-g-init
loop-g-init c = (underway-start _ _ _ _ _ c.requires.0 c.requires.1, c.begin-survey.ensures)

pub next-survey-requires : goal.next-survey-requires
next-survey-requires c = let w = c.loop-g.invariant in
    let v = w.0.sound.valid in
    (w.1, v, c.shape_of-s.ensures, w.0.sound.good, group_inside _ _ _ _ _ _ _ _ w.0 (more _ v c.loop-g.g _ _ c.div_ceil-last.ensures (omega arith)))

pub overflow_mul-span-in-loop-g : goal.overflow_mul-span-in-loop-g
overflow_mul-span-in-loop-g c = let v = c.loop-g.invariant.0.sound.valid in
    omega (arith, more _ v c.loop-g.g _ _ c.div_ceil-last.ensures (omega arith), (layout_products _ v).capacity, c.requires.1)

pub write_group-requires : goal.write_group-requires
write_group-requires c = let w = c.loop-g.invariant.0 in
    let before = more _ w.sound.valid c.loop-g.g _ _ c.div_ceil-last.ensures (omega arith) in
    let s = c.next-survey.ensures.1 in
    (fits_here _ _ _ _ _ _ _ _ w before _ s, apart_here _ _ _ _ _ _ _ _ w before _ s, named_here _ _ _ _ _ _ _ _ w before _ s)

pub loop-g-preserved : goal.loop-g-preserved
loop-g-preserved c = let w = c.loop-g.invariant.0 in
    let before = more _ w.sound.valid c.loop-g.g _ _ c.div_ceil-last.ensures (omega arith) in
    let next = underway_next _ _ _ _ _ _ _ _ w before _ c.next-survey.ensures.1 _ c.write_group.ensures in
    (subst (λ (from : ℕ). Underway c.args.y c.args.r c.args.image.now c.args.offset c.args.bytes.now (c.loop-g.g + 1) from c.write_group.new.image) next.from_is next, c.next-survey.ensures.0)

pub shape_of-image : goal.shape_of-image
shape_of-image c = c.loop-g.invariant.0.same

pub returns : goal.returns
returns c = let w = c.loop-g.invariant.0 in
    underway-done _ _ _ _ _ _ _ _ w (begins_after (data_span c.args.y) c.loop-g.g _ _ (data_bytes _ w.sound.valid) c.div_ceil-last.ensures (omega arith))
