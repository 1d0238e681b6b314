-- `proposal_check::window_good` meets its contract. The loop keeps: the permutation in hand is its tile's, and the entries before what is left of the plan
-- have passed.
use Rattle.std.proofs.Common.{sym, ap, ◌∙◌, arith}
use Rattle.std.specs.Slice.Iter.{chunks_exact_rest, chunks_exact_size}
use Rattle.proposal_check.specs.Steps.{pass_begin, pass_end, pass_outside, pass_by, pass_bad, weight_fits, pass_twice, pass_in}
use Rattle.proposal_check.proofs.window_good.Goals as goal

pub loop-entry-init : goal.loop-entry-init
loop-entry-init c =
    let all = c.into_iter-entry-iterator.ensures.into_iter_gives in
    let made = c.chunks_exact-entry-items.ensures in
    (c.permutation-to.ensures, ap chunks_exact_size all ∙ made.size, pass_begin _ _ _ _ _ _ c.requires _ (ap chunks_exact_rest all ∙ made.rest))

pub returns-then-groups-g : goal.returns-then-groups-g
returns-then-groups-g c =
    let step = c.in-Some.ensures.steps.1 in
    sym (pass_outside _ _ _ _ _ _ c.requires _ _ c.loop-entry.invariant.2 _ _ step.0 (step.1 ∙ c.loop-entry.invariant.1) c.if-groups-g.true)

pub returns-in_default : goal.returns-in_default
returns-in_default c =
    let step = c.in-Some.ensures.steps.1 in
    sym (pass_bad _ _ _ _ _ _ c.requires _ _ c.loop-entry.invariant.2 _ _ step.0 (step.1 ∙ c.loop-entry.invariant.1)
    c.if-g-w.true _ c.in_default.is c.entry_rank.ensures)

pub nonzero_div-marks : goal.nonzero_div-marks
nonzero_div-marks c =
    let step = c.in-Some.ensures.steps.1 in
    let fits = weight_fits _ _ _ _ _ _ c.requires _ _ c.loop-entry.invariant.2 _ _ step.0 (step.1 ∙ c.loop-entry.invariant.1)
    c.if-g-w.true _ _ c.in-Some-entry_rank.is c.entry_rank.ensures _ c.weight-bit.ensures in
    omega (arith, fits.0)

pub returns-then-marks-h-eq1 : goal.returns-then-marks-h-eq1
returns-then-marks-h-eq1 c =
    let step = c.in-Some.ensures.steps.1 in
    sym (pass_twice _ _ _ _ _ _ c.requires _ _ c.loop-entry.invariant.2 _ _ step.0 (step.1 ∙ c.loop-entry.invariant.1)
    c.if-g-w.true _ _ c.in-Some-entry_rank.is c.entry_rank.ensures _ c.weight-bit.ensures c.if-marks-h-eq1.true)

pub overflow_add-marks : goal.overflow_add-marks
overflow_add-marks c =
    let step = c.in-Some.ensures.steps.1 in
    let fits = weight_fits _ _ _ _ _ _ c.requires _ _ c.loop-entry.invariant.2 _ _ step.0 (step.1 ∙ c.loop-entry.invariant.1)
    c.if-g-w.true _ _ c.in-Some-entry_rank.is c.entry_rank.ensures _ c.weight-bit.ensures in
    omega (arith, fits.1)

pub loop-entry-preserved-then-g-w : goal.loop-entry-preserved-then-g-w
loop-entry-preserved-then-g-w c =
    let step = c.in-Some.ensures.steps.1 in (
      c.tile_to-to.ensures,
      c.in-Some.ensures.steps.0 ∙ c.loop-entry.invariant.1,
      pass_in _ _ _ _ _ _ c.requires _ _ c.loop-entry.invariant.2 _ _ step.0 (step.1 ∙ c.loop-entry.invariant.1)
          c.if-g-w.true _ _ c.in-Some-entry_rank.is c.entry_rank.ensures _ c.weight-bit.ensures c.if-marks-h-eq1.false,
    )

pub loop-entry-preserved : goal.loop-entry-preserved
loop-entry-preserved c =
    let step = c.in-Some.ensures.steps.1 in (
      c.loop-entry.invariant.0,
      c.in-Some.ensures.steps.0 ∙ c.loop-entry.invariant.1,
      pass_by _ _ _ _ _ _ c.requires _ _ c.loop-entry.invariant.2 _ _ step.0 (step.1 ∙ c.loop-entry.invariant.1) c.if-groups-g.false c.if-g-w.false,
    )

pub returns : goal.returns
returns c =
    sym (pass_end _ _ _ _ _ _ c.requires _ _ c.loop-entry.invariant.2 (omega (arith, c.in-None.ensures.steps.1.0, c.loop-entry.invariant.1)))
