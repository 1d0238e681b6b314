-- `tile::inverted` meets its contract: every store puts an index where its entry says.
use Rattle.std.proofs.Common.{arith}
use Rattle.tile.specs.Stores.{stores_inverse}
use Rattle.tile.proofs.inverted.Goals as goal

pub returns : goal.returns
returns c = stores_inverse c.args.a c.loop-t.b c.requires (omega arith) c.loop-t.invariant.0 (λ k h. c.loop-t.invariant.1 k (omega arith))
