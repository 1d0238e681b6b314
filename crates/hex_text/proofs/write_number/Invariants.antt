use Prim.Native.Nat.{◌+◌, ◌-◌, ◌/◌, ◌^◌}
use mathlib.Core.Path.{◌≡◌}
use Rattle.lists.specs.Span.{Span}
use Rattle.hex_text.specs.DigitsLaws.{hex_digit_from}
use Rattle.hex_text.proofs.write_number.Given as goal

abbrev pub invariant-loop-j : goal.invariant-loop-j
invariant-loop-j l = (l.rest ≡ l.x / 16 ^ (l.n - l.j)) × Span (hex_digit_from l.n l.x l.at) (l.at + l.j) (l.at + l.n) l.initial.text l.text
