-- `group_swap::rooms_of`. The loop keeps: which of the contents passed move, their rooms, and the next room.
use mathlib.Core.Path.{refl, ap, ◌∙◌}
use mathlib.Core.Bool.{Bool, false, not}
use lib.Dec.{eqb}
use Prim.Native.Nat.{ℕ, ◌+◌, ◌*◌, ◌≤◌, ◌<◌}
use native.Mathlib.Omega.{arith}
use borrow.Author.Count.{below_none}
use lib.ListN.{get_or, length-set}
use Rattle.lists.specs.Pick.{bit_le}
use Rattle.lists.specs.Tabulate.{fill_step}
use Rattle.plan.specs.Steps.{from_bool_bit}
use Rattle.group_swap.specs.Taken.{start_moves, room_of}
use Rattle.group_swap.specs.TakenLaws.{room_first, room_low, room_next, start_moves_lem}
use Rattle.group_swap.proofs.rooms_of.Goals as goal

pub loop-c-init : goal.loop-c-init
loop-c-init c = (omega arith, refl, refl, below_none _, below_none _, room_first _ _)

pub overflow_add-room : goal.overflow_add-room
overflow_add-room c = let few : c.loop-c.c ≤ 19 = omega (arith, c.loop-c-test.true, c.requires) in
    let t : Bool = not (eqb (get_or c.args.from c.loop-c.c 0) (get_or c.args.to c.loop-c.c 0)) in
    omega (arith, room_low _ _ _ _ c.loop-c.invariant.5 few, c.from.ensures ∙ from_bool_bit t, bit_le t)

pub loop-c-preserved : goal.loop-c-preserved
loop-c-preserved c = let l = c.loop-c in
    let few : l.c < 19 = omega (arith, c.loop-c-test.true, c.requires) in (
      omega (arith, c.loop-c-test.true),
      length-set l.moves l.c _ ∙ l.invariant.1,
      length-set l.at l.c _ ∙ l.invariant.2,
      fill_step (start_moves _ _) l.moves l.c _ false (omega (arith, few, l.invariant.1)) (start_moves_lem _ _ _) l.invariant.3,
      fill_step (room_of _ _) l.at l.c _ 0 (omega (arith, few, l.invariant.2)) l.invariant.5 l.invariant.4,
      room_next _ _ l.c l.room _ _ l.invariant.5 (start_moves_lem _ _ _) (ap (λ (z : ℕ). l.room + z * 4096) (c.from.ensures ∙ from_bool_bit _)),
    )

pub returns : goal.returns
returns c = record { moves_are = λ k h. c.loop-c.invariant.3 k (omega arith); at_are = λ k h. c.loop-c.invariant.4 k (omega arith) }
