-- `entries::same_cob` meets its contract: the two words.
use Rattle.entries.proofs.Derived.{wide_equality}
use Rattle.entries.proofs.same_cob.Goals as goal

pub returns : goal.returns
returns c = wide_equality c.args.a c.args.b
