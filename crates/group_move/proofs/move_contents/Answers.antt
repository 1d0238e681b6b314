-- `group_move::move_contents`. The loop keeps: the first c contents are moved.
use mathlib.Core.Path.{refl, ap, ◌∙◌}
use native.Mathlib.Omega.{arith}
use lib.ListN.{length}
use Rattle.runs.specs.Run.{length-run_set}
use Rattle.runs.specs.Steps.{fits_at}
use Rattle.group_move.specs.MovedLaws.{moved_none, moved_turn, moved-end}
use Rattle.group_move.proofs.move_contents.Goals as goal

pub overflow_add-c-end : goal.overflow_add-c-end
overflow_add-c-end c = let f = c.requires.0 in omega (arith, f.right.solvable.data_max, f.right.solvable.parity_max)

pub image_starts-starts-requires : goal.image_starts-starts-requires
image_starts-starts-requires c = (c.requires.1, omega arith)

pub loop-c-init : goal.loop-c-init
loop-c-init c = (omega arith, refl, moved_none _ _ _ _)

pub move_content-requires : goal.move_content-requires
move_content-requires c = let p = c.requires in
    (p.0, fits_at p.1 c.loop-c.invariant.1, p.2, p.3, c.image_starts-starts.ensures, c.loop-c-test.true)

pub loop-c-preserved : goal.loop-c-preserved
loop-c-preserved c = let p = c.requires in
    let l = c.loop-c in (
      omega (arith, c.loop-c-test.true),
      ap length c.move_content.ensures ∙ length-run_set _ _ _ _ ∙ l.invariant.1,
      moved_turn _ _ _ _ p.1 p.2 p.3 l.c l.new _ c.loop-c-test.true l.invariant.1 l.invariant.2 c.move_content.ensures,
    )

pub shape_of-new : goal.shape_of-new
shape_of-new c = c.loop-c.invariant.1

pub returns : goal.returns
returns c = moved-end _ _ _ _ _ _ _ c.loop-c.invariant.2 (omega arith)
