use Rattle.std.proofs.Common.{◌≡◌, ◌-◌}
use Rattle.tile.specs.Permutation.{shuffle_of, permutation_of}
use Rattle.tile.proofs.permutation.Given as goal

abbrev pub invariant-loop-i : goal.invariant-loop-i
invariant-loop-i l = shuffle_of (l.i - 1) l.g.state l.a ≡ permutation_of l.edition l.p l.cookie l.tile
