use mathlib.Core.Path.{◌≡◌}
use mathlib.Core.List.{[]}
use Prim.Native.Nat.{ℕ, ◌-◌, ◌<◌, ◌≤◌}
use lib.ListN.{length, get_or}
use Rattle.systems.specs.Matrix.{ent, three_of}
use Rattle.parity.specs.Matrix.{flag, parity_coef}
use Rattle.parity.proofs.Group.solved_rows.Given as goal

abbrev pub invariant-loop-q : goal.invariant-loop-q
invariant-loop-q l = record {
  from : l.lost.count ≤ l.q;
  len : length l.rows ≡ 3;
  data_rows : (x : ℕ) → x < l.lost.count → get_or l.rows x [] ≡ get_or l.lines x [];
  done : (x : ℕ) → l.lost.count ≤ x → x < l.q → (j : ℕ) → j < l.self.n
      → ent l.rows x j ≡ parity_coef l.lost.at (three_of (λ r. ent l.lines r j)) (flag l.self.miss j) (get_or l.gone.at x 0 - l.self.n) j;
}
