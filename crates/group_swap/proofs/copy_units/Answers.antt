-- `group_swap::copy_units`. The loop keeps: the units passed are copied.
use mathlib.Core.Path.{◌≡◌, refl, sym, ap, ◌∙◌}
use mathlib.Core.Bool.{false}
use native.Mathlib.Omega.{arith}
use lib.ListN.{length, get_or}
use Rattle.lists.specs.Pick.{pick, pick_true, pick-false}
use Rattle.runs.specs.Held.{run_of}
use Rattle.runs.specs.Run.{run_set}
use Rattle.group_swap.specs.TakenLaws.{copied_none, copied_turn, copied_length, copied_end}
use Rattle.group_swap.proofs.copy_units.Goals as goal
use Rattle.group_swap.proofs.copy_units.Goals.{then-on-c, else-on-c}

pub loop-c-init : goal.loop-c-init
loop-c-init c = (omega arith, refl, copied_none _ _ _ _ _ _)

pub put_run-requires : goal.put_run-requires
put_run-requires c =
    let p = c.requires.1 c.loop-c.c c.loop-c-test.true c.if-on-c.true in
    (omega (arith, p.1, c.loop-c.invariant.1), p.0)

pub loop-c-preserved : goal.loop-c-preserved
loop-c-preserved c = let l = c.loop-c in
    let t : c.if-on-c.out ≡ pick (get_or c.args.on l.c false) (run_set (get_or c.args.to l.c 0) c.args.len (run_of c.args.src.now (get_or c.args.from l.c 0)) l.out) l.out =
    elim c.if-on-c.branch [
      | then-on-c w ↦ w.out-is ∙ w.put_run.ensures ∙ sym (pick_true _ _ _ w.if-on-c.true)
      | else-on-c w ↦ w.out-is ∙ sym (pick-false _ _ _ w.if-on-c.false)
    ] in
    let e = copied_turn _ _ _ _ _ _ l.c l.out _ l.invariant.2 t in
    (omega (arith, c.loop-c-test.true), ap length e ∙ copied_length _ _ _ _ _ _ _, e)

pub shape_of-out : goal.shape_of-out
shape_of-out c = c.loop-c.invariant.1

pub returns : goal.returns
returns c = copied_end _ _ _ _ _ _ _ _ _ c.loop-c.invariant.2 (omega arith)
