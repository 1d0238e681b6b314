use mathlib.Core.Path.{◌≡◌}
use mathlib.Core.List.{[]}
use Prim.Native.Nat.{ℕ, ◌<◌, ◌≤◌}
use lib.ListN.{length, get_or, replicate}
use Rattle.systems.specs.Matrix.{ent}
use Rattle.parity.specs.Matrix.{flag, lost_coef}
use Rattle.parity.proofs.Group.lost_rows.Given as goal

abbrev pub invariant-loop-c : goal.invariant-loop-c
invariant-loop-c l = record {
  within : l.c ≤ l.d;
  len : length l.rows ≡ 3;
  done : (x : ℕ) → 0 ≤ x → x < l.c → (j : ℕ) → j < l.self.n → ent l.rows x j ≡ lost_coef l.m l.is l.d (flag l.self.miss) x j;
  zeros : (x : ℕ) → l.c ≤ x → get_or l.rows x [] ≡ get_or (replicate 3 (replicate 16 0)) x [];
}
