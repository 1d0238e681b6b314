use Prim.Native.Nat.{◌≤◌}
use lib.ListN.{length}
use Rattle.trace.specs.FieldLines.{Writing}
use Rattle.trace.proofs.write_fields.Given as goal

abbrev pub invariant-loop-i : goal.invariant-loop-i
invariant-loop-i l = (wide : l.n ≤ length l.widths) (many : l.n ≤ length l.numbers) → Writing l.widths l.numbers l.n wide many l.at l.initial.text l.to l.i l.text
