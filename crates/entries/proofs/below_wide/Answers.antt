-- `entries::below_wide` meets its contract: the two words in turn.
use Rattle.entries.proofs.Derived.{wide_below}
use Rattle.entries.proofs.below_wide.Goals as goal

pub returns : goal.returns
returns c = wide_below c.args.a c.args.b
