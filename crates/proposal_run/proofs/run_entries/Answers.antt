-- `proposal_run::run_entries` meets its contract. The loop keeps: the entries before what is left of the list are run, and what the next may keep.
use Rattle.std.proofs.Common.{ap, ◌∙◌, arith}
use Rattle.std.specs.Slice.Iter.{chunks_exact_rest, chunks_exact_size}
use Rattle.proposal_run.specs.Turns.{run_begin, run_length, run_entry, run_turn, run_end}
use Rattle.proposal_run.proofs.run_entries.Goals as goal

pub loop-entry-init : goal.loop-entry-init
loop-entry-init c =
    let all = c.into_iter-entry-iterator.ensures.into_iter_gives in
    let made = c.chunks_exact-entry-items.ensures in
    (c.begin-survey.ensures, ap chunks_exact_size all ∙ made.size, run_begin _ _ _ _ _ (ap chunks_exact_rest all ∙ made.rest))

pub run_entry-survey-requires : goal.run_entry-survey-requires
run_entry-survey-requires c =
    let p = c.requires in
    let i = c.loop-entry.invariant in
    let step = c.in-Some.ensures.steps.1 in (
      run_entry _ _ _ _ p.0 p.1 _ _ i.2 _ _ step.0 (step.1 ∙ i.1) _ c.shape_of-s.ensures,
      i.0,
      run_length _ _ _ _ p.0 p.1 _ _ i.2 ∙ p.0.len_is,
    )

pub loop-entry-preserved : goal.loop-entry-preserved
loop-entry-preserved c =
    let p = c.requires in
    let i = c.loop-entry.invariant in
    let step = c.in-Some.ensures.steps.1 in (
      c.run_entry-survey.ensures.surveying,
      c.in-Some.ensures.steps.0 ∙ i.1,
      run_turn _ _ _ _ p.0 p.1 _ _ i.2 _ _ step.0 (step.1 ∙ i.1) _ c.shape_of-s.ensures _ c.run_entry-survey.ensures.stored,
    )

pub returns : goal.returns
returns c =
    let p = c.requires in
    let i = c.loop-entry.invariant in
    run_end _ _ _ _ p.0 p.1 _ _ i.2 (omega (arith, c.in-None.ensures.steps.1.0, i.1))
