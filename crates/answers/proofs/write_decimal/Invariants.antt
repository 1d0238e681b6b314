use Prim.Native.Nat.{◌+◌, ◌-◌, ◌≤◌}
use mathlib.Core.Path.{◌≡◌}
use Rattle.lists.specs.Span.{Span}
use Rattle.answers.specs.Decimal.{tenths, places}
use Rattle.answers.specs.DecimalLaws.{digit_from}
use Rattle.answers.proofs.write_decimal.Given as goal

abbrev pub invariant-loop-left : goal.invariant-loop-left
invariant-loop-left l = (l.digits ≡ places l.n) × (l.left ≤ l.digits) × (l.rest ≡ tenths (places l.n - l.left) l.n) × Span (digit_from l.n l.at) (l.at + l.left) (l.at + places l.n) l.initial.text l.text
