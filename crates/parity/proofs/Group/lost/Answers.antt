-- `parity::Group::lost`. There are at most three.
use Rattle.std.proofs.Common.{arith}
use Rattle.parity.specs.Matrix.{flag}
use Rattle.parity.specs.Restores.{lost_most}
use Rattle.parity.proofs.Group.lost.Goals as goal

pub missing_below-requires : goal.missing_below-requires
missing_below-requires c = let g = c.args.self.now in (omega (arith, g.solvable.data_max), lost_most g.n g.k (flag g.miss) g.solvable)
