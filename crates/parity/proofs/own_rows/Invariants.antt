use mathlib.Core.Path.{◌≡◌}
use Prim.Native.Nat.{ℕ, ◌-◌, ◌<◌, ◌≤◌}
use lib.ListN.{length, get_or}
use Rattle.systems.specs.Coef.{coef}
use Rattle.systems.specs.Matrix.{ent}
use Rattle.parity.proofs.own_rows.Given as goal

abbrev pub invariant-loop-q : goal.invariant-loop-q
invariant-loop-q l = record {
  within : l.q ≤ l.gone.count;
  len : length l.rows ≡ 3;
  done : (x : ℕ) → 0 ≤ x → x < l.q → (j : ℕ) → j < 16 → ent l.rows x j ≡ coef (get_or l.gone.at x 0 - l.n) j;
}
