-- `entries::below` meets its contract: the device, and then the file.
use Rattle.entries.proofs.Derived.{key_below}
use Rattle.entries.proofs.below.Goals as goal

pub returns : goal.returns
returns c = key_below c.args.a c.args.b c.below_wide.ensures
