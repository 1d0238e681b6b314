use Prim.Native.Nat.{ℕ, ◌+◌, ◌*◌, ◌<◌}
use mathlib.Core.Path.{◌≡◌}
use lib.ListN.{length}
use Rattle.lists.specs.Tabulate.{at}
use Rattle.hex_text.specs.Tell.{pair_at}
use Rattle.hex_text.proofs.pairs_at.Given as goal

abbrev pub invariant-loop-o : goal.invariant-loop-o
invariant-loop-o l = (length l.pair-items ≡ 32) × ((k : ℕ) → k < l.o → at l.pair-items k ≡ pair_at l.text (l.from + 2 * k))
