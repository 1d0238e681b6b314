use mathlib.Core.Path.{◌≡◌}
use mathlib.Core.Bool.{not}
use Prim.Native.Nat.{ℕ, ◌<◌, ◌≤◌}
use lib.ListN.{length, get_or}
use Rattle.lists.specs.Pick.{pick}
use Rattle.parity.specs.Matrix.{flag}
use Rattle.updates.proofs.halved.Given as goal

abbrev pub invariant-loop-j : goal.invariant-loop-j
invariant-loop-j l = (l.j ≤ l.n) × (length l.present ≡ 16) × (length l.missing ≡ 16) × ((x : ℕ) → x < l.j → get_or l.present x 0 ≡ pick (not (flag l.gone x)) (get_or l.row x 0) 0) × ((x : ℕ) → x < l.j → get_or l.missing x 0 ≡ pick (flag l.gone x) (get_or l.row x 0) 0)
