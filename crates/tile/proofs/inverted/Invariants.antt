use Rattle.std.proofs.Common.{◌≡◌, ℕ, ◌<◌, length}
use Rattle.lists.specs.Tabulate.{at}
use Rattle.tile.proofs.inverted.Given as goal

abbrev pub invariant-loop-t : goal.invariant-loop-t
invariant-loop-t l = (length l.b ≡ 64) × ((k : ℕ) → k < l.t → at l.b (at l.fn.a k) ≡ k)
