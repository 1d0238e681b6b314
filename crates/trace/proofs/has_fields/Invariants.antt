use Prim.Native.Nat.{◌≤◌}
use mathlib.Core.Path.{◌≡◌}
use lib.ListN.{length, take}
use Rattle.trace.specs.Fields.{fields_at}
use Rattle.trace.specs.FieldLaws.{fields_from}
use Rattle.trace.proofs.has_fields.Given as goal

abbrev pub invariant-loop-i : goal.invariant-loop-i
invariant-loop-i l = (l.at ≤ length l.line) × (fields_at l.line l.from (take l.n l.widths) ≡ fields_from l.line l.widths l.n l.i l.at)
