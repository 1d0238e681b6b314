-- `proposal_run::left_out` meets its contract. The loop keeps: the flags are set at all contents but the sources passed. A turn is `left_turn`.
use Rattle.std.proofs.Common.{refl, ◌∙◌, length-set}
use Rattle.proposal_run.specs.Turns.{left-none, left_turn}
use Rattle.proposal_run.proofs.left_out.Goals as goal

pub loop-source-init : goal.loop-source-init
loop-source-init c = (refl, left-none _)

pub loop-source-preserved : goal.loop-source-preserved
loop-source-preserved c =
    let l = c.loop-source in
    let lt = c.requires l.source-index c.loop-source-test.true in
    (length-set l.missing _ _ ∙ l.invariant.0, left_turn _ _ l.missing l.invariant.0 lt l.invariant.1)
