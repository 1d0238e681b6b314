use mathlib.Core.Path.{◌≡◌}
use Prim.Native.Nat.{ℕ, ◌<◌, ◌≤◌}
use lib.ListN.{length, get_or}
use Rattle.parity.specs.Matrix.{flag}
use Rattle.parity.specs.Steps.{parity_from}
use Rattle.parity.proofs.Group.parity_row.Given as goal

abbrev pub invariant-loop-j : goal.invariant-loop-j
invariant-loop-j l = record {
  within : l.j ≤ l.self.n;
  len : length l.row ≡ 16;
  done : (x : ℕ) → x < l.j → get_or l.row x 0 ≡ parity_from l.own l.across l.lines (flag l.self.miss x) x;
}
