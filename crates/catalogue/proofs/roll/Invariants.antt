-- What the turns that are left make, with the record that is carried, is what they all make of the part.
use Rattle.std.proofs.Common.{◌≡◌, ◌-◌, true, false, length}
use Rattle.entries.specs.Turned.{rolled as turned}
use Rattle.catalogue.proofs.roll.Given as goal

abbrev pub invariant-loop-slot : goal.invariant-loop-slot
invariant-loop-slot l =
    turned (length l.initial.run - l.slot-index) false l.slot-index l.carried l.run
    ≡ turned (length l.initial.run) false 0 l.fn.plan.first l.initial.run

abbrev pub invariant-loop-i : goal.invariant-loop-i
invariant-loop-i l =
    turned l.i true (l.i - 1) l.carried l.run ≡ turned (length l.initial.run) true (length l.initial.run - 1) l.fn.plan.first l.initial.run
