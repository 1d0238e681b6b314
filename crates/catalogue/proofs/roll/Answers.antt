-- Each turn is one of those that are left; when none is, the part of the slots has moved by one place.
use Rattle.std.proofs.Common.{sym, ap, ◌∙◌, arith, ◌-◌, length, take, drop, true, false}
use Rattle.entries.specs.declared.Way.{Way}
use Rattle.entries.specs.Roll.{rolled}
use Rattle.catalogue.proofs.Turns.{turn_up, turn_down, turned_out, rolled_up_by, rolled_down_by}
use Rattle.catalogue.proofs.roll.Goals as goal

pub loop-slot-preserved : goal.loop-slot-preserved
loop-slot-preserved c =
    turn_up (length (take (c.args.plan.end - c.args.plan.from) (drop c.args.plan.from c.args.s.now))) c.loop-slot.slot-index c.loop-slot.carried
    c.loop-slot.run (omega arith)
    ∙ c.loop-slot.invariant

pub loop-i-preserved : goal.loop-i-preserved
loop-i-preserved c = turn_down c.loop-i.i c.loop-i.carried c.loop-i.run (omega arith) ∙ c.loop-i.invariant

pub returns-after-loop-slot : goal.returns-after-loop-slot
returns-after-loop-slot c =
    rolled_up_by c.args.plan.from c.args.plan.end c.args.s.now c.requires.0 c.requires.1 c.args.plan.first
    (sym (turned_out _ c.loop-slot.slot-index false c.loop-slot.carried c.loop-slot.run (omega arith)) ∙ c.loop-slot.invariant)
    ∙ ap (λ (v : Way). rolled v c.args.plan.from c.args.plan.end c.args.plan.first c.args.s.now) (sym c.in-Up.is)

pub returns-after-loop-i : goal.returns-after-loop-i
returns-after-loop-i c =
    rolled_down_by c.args.plan.from c.args.plan.end c.args.s.now c.requires.0 c.requires.1 c.args.plan.first
    (sym (turned_out c.loop-i.i (c.loop-i.i - 1) true c.loop-i.carried c.loop-i.run (omega arith)) ∙ c.loop-i.invariant)
    ∙ ap (λ (v : Way). rolled v c.args.plan.from c.args.plan.end c.args.plan.first c.args.s.now) (sym c.in-Down.is)
