-- `proposal_run::run_entry` meets its contract: what is planned is the entry's group with its sources alone left, which solves the content and fits the image.
use Rattle.std.proofs.Common.{arith, length-drop}
use Rattle.std.proofs.lemmas.List.{take_all}
use Rattle.proposal_run.specs.Turns.{entry_sources, entry_tile, entry_next, entry_ready, entry_surveyed, entry_stored}
use Rattle.proposal_run.proofs.run_entry.Goals as goal

pub new_starts-homes-requires : goal.new_starts-homes-requires
new_starts-homes-requires c = entry_tile _ _ _ _ _ _ c.requires.0.there _ c.tile_to-to.ensures

pub left_out-flags-requires : goal.left_out-flags-requires
left_out-flags-requires c = entry_sources _ _ _ _ _ _ c.requires.0.there _ (take_all _ _ (omega (arith, length-drop 2 c.args.entry.now)))

pub plan_next-plan-requires : goal.plan_next-plan-requires
plan_next-plan-requires c =
    entry_next _ _ _ _ _ _ c.requires.0.there _ c.requires.1 _ (take_all _ _ (omega (arith, length-drop 2 c.args.entry.now))) _ c.left_out-flags.ensures

pub mend_unit-requires : goal.mend_unit-requires
mend_unit-requires c =
    let new = c.new_starts-homes in
    entry_ready _ _ _ _ _ _ c.requires.0.there _ c.requires.1 _ (take_all _ _ (omega (arith, length-drop 2 c.args.entry.now))) _ c.left_out-flags.ensures
    new.result new.ensures _ c.plan_next-plan.ensures _ c.requires.2

pub returns : goal.returns
returns c =
    let new = c.new_starts-homes in
    let next = c.plan_next-plan.ensures in
    record {
      surveying =
          entry_surveyed _ _ _ _ _ _ c.requires.0.there _ c.requires.1 _ (take_all _ _ (omega (arith, length-drop 2 c.args.entry.now)))
          _ c.left_out-flags.ensures new.result new.ensures _ next _ _ c.tile_to-to.ensures;
      stored = λ plan e k.
          entry_stored _ _ _ _ _ _ k _ c.requires.1 _ (take_all _ _ (omega (arith, length-drop 2 c.args.entry.now)))
          _ c.left_out-flags.ensures new.result new.ensures _ next _ _ c.requires.2 c.mend_unit.ensures;
    }
