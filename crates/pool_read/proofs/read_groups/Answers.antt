-- `pool_read::read_groups` meets its contract. Every byte of the file before the next group's first is read.
use mathlib.Core.Path.{◌≡◌, refl, subst⁻¹, subst, ◌∙◌}
use Prim.Native.Nat.{ℕ, ◌+◌, ◌*◌, ◌/◌, ◌%◌, ◌<◌, ◌≤◌, min}
use native.Mathlib.Omega.{arith}
use Rattle.std.proofs.Common.{mul_comm}
use Rattle.lists.specs.Pick.{pick}
use lib.Dec.{ltb}
use lib.ListN.{get_or}
use Rattle.numbers.specs.declared.Layout.{Layout}
use Rattle.numbers.specs.Layouts.{Valid, all_groups, capacity}
use Rattle.pool.specs.Contents.{file_byte}
use Rattle.plan.specs.Plans.{Fits}
use Rattle.groups.specs.Read.{file_none, file_done}
use Rattle.groups.specs.Walk.{begins_before, begins_after}
use Rattle.survey.specs.Surveyed.{fits}
use Rattle.pool_read.specs.Files.{first_byte, group_in, small, read_turn, length_read, next_first}
use Rattle.pool_read.proofs.read_groups.Goals as goal

-- a turn's group begins before the end, so that it is one of the pool
before : (y : Layout) → Valid y → (g end n : ℕ) → n ≡ end / (y.n * y.u) + min 1 (end % (y.n * y.u)) → g < n → g * (y.n * y.u) < end
before y v g end n is h = omega (arith, begins_before (y.n * y.u) g end n (small y v).3 is h, mul_comm g (y.n * y.u))

here : (y : Layout) → Valid y → (g end n : ℕ) → n ≡ end / (y.n * y.u) + min 1 (end % (y.n * y.u)) → end ≤ capacity y → g < n → g < all_groups y
here y v g end n is within h = group_in y v g (omega (arith, before y v g end n is h, within))

pub shape_of-s-requires : goal.shape_of-s-requires
shape_of-s-requires c = c.requires.0.valid

pub overflow_mul-span : goal.overflow_mul-span
overflow_mul-span c = omega (arith, small _ c.requires.0.valid)

pub overflow_add-end : goal.overflow_add-end
overflow_add-end c = omega (arith, small _ c.requires.0.valid, c.requires.1)

pub nonzero_div-first : goal.nonzero_div-first
nonzero_div-first c = (small _ c.requires.0.valid).3

pub begin-survey-requires : goal.begin-survey-requires
begin-survey-requires c = (c.requires.0.valid, c.shape_of-s.ensures)

pub loop-g-init : goal.loop-g-init
loop-g-init c = let y = c.args.y in
    let x = c.args.offset in
    (refl, c.begin-survey.ensures, λ i b. file_none (file_byte y c.args.r c.args.image.now) x c.args.out.now (x / (y.n * y.u) * (y.n * y.u)) (first_byte x (y.n * y.u)) i)

pub next-survey-requires : goal.next-survey-requires
next-survey-requires c = let p = c.requires.0 in
    (c.loop-g.invariant.1, p.valid, c.shape_of-s.ensures, p.good, here _ p.valid c.loop-g.g _ _ c.div_ceil-last.ensures c.requires.1 (omega arith))

pub overflow_mul-g : goal.overflow_mul-g
overflow_mul-g c = let v = c.requires.0.valid in omega (arith, small _ v, before _ v c.loop-g.g _ _ c.div_ceil-last.ensures (omega arith), c.requires.1)

pub read_group-requires : goal.read_group-requires
read_group-requires c = let p = c.requires.0 in
    let r = c.args.r in
    let end = c.requires.1 in
    let len = c.loop-g.invariant.0 in (
      subst⁻¹ (Fits c.next-survey.result.plan) p.len_is
          (fits _ p.valid r p.good r.q (omega (arith, p.good.mended, p.good.few)) _ (here _ p.valid c.loop-g.g _ _ c.div_ceil-last.ensures end (omega arith)) _ c.next-survey.ensures.1),
      omega (arith, small _ p.valid, before _ p.valid c.loop-g.g _ _ c.div_ceil-last.ensures (omega arith), end),
      omega (arith, small _ p.valid, len, end),
    )

pub loop-g-preserved : goal.loop-g-preserved
loop-g-preserved c = let y = c.args.y in
    let p = c.requires.0 in
    let i = c.loop-g.invariant in
    let done = c.read_group.ensures in
    let g = c.loop-g.g in
    let turn = read_turn y p.valid c.args.r p.good g c.next-survey.result.plan c.next-survey.ensures.1 c.args.image.now c.args.offset (g * (y.n * y.u)) c.args.out.now c.loop-g.out _ refl i.0 i.2 done in (
      length_read c.next-survey.result.plan _ _ _ c.loop-g.out _ done ∙ i.0,
      c.next-survey.ensures.0,
      λ x h. subst (λ (f : ℕ). get_or c.read_group.new.out x 0 ≡ pick (ltb (c.args.offset + x) f) (file_byte y c.args.r c.args.image.now (c.args.offset + x)) (get_or c.args.out.now x 0)) (next_first g (y.n * y.u)) (turn x h),
    )

pub shape_of-out : goal.shape_of-out
shape_of-out c = c.loop-g.invariant.0

pub returns : goal.returns
returns c = let y = c.args.y in
    let d = y.n * y.u in
    file_done (file_byte y c.args.r c.args.image.now) c.args.offset c.args.out.now (c.loop-g.g * d) c.loop-g.out
    c.loop-g.invariant.0 (omega (arith, begins_after d c.loop-g.g _ _ (small _ c.requires.0.valid).3 c.div_ceil-last.ensures (omega arith), mul_comm c.loop-g.g d)) c.loop-g.invariant.2
