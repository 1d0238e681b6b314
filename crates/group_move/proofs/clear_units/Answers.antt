-- `group_move::clear_units`. The loop keeps: the units passed are zeros.
use Rattle.std.specs.Prelude.{◌≡◌, List, ℕ, ◌<◌, length, get_or, take}
use Rattle.std.proofs.Common.{refl, ap, ◌∙◌, arith, get_or-take, length-take}
use Rattle.runs.specs.Held.{zero_byte}
use Rattle.runs.specs.Run.{run_set, length-run_set}
use Rattle.group_move.specs.MovedLaws.{cleared_none, cleared_turn, cleared_end}
use Rattle.group_move.proofs.clear_units.Goals as goal

-- an item of the first n of a list
item : (l : List ℕ) (n i : ℕ) → i < length (take n l) → get_or (take n l) i 0 ≡ get_or l i 0
item l n i h = get_or-take n l i 0 (omega (arith, h, length-take n l))

pub loop-start-init : goal.loop-start-init
loop-start-init c = (refl, cleared_none _ _ _)

pub clear_run-requires : goal.clear_run-requires
clear_run-requires c = let i = c.loop-start.start-index in
    let h : i < c.args.count = omega (arith, c.loop-start-test.true, length-take c.args.count c.args.starts) in
    omega (arith, c.requires.1 i h, item c.args.starts c.args.count i c.loop-start-test.true, c.loop-start.invariant.0)

pub loop-start-preserved : goal.loop-start-preserved
loop-start-preserved c = let l = c.loop-start in (
  ap length c.clear_run.ensures ∙ length-run_set _ _ _ _ ∙ l.invariant.0,
  cleared_turn _ _ _ l.start-index l.new _ l.invariant.1
      (c.clear_run.ensures ∙ ap (λ (x : ℕ). run_set x c.args.u zero_byte l.new) (item c.args.starts c.args.count l.start-index c.loop-start-test.true)),
)

pub returns : goal.returns
returns c = cleared_end _ _ _ _ _ _ c.loop-start.invariant.1 (omega (arith, c.loop-start-test.false, length-take c.args.count c.args.starts, c.loop-start.auto.start-index-end))
