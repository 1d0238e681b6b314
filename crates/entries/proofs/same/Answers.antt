-- `entries::same` meets its contract: the derived comparison is that of the definition.
use Rattle.std.proofs.Common.{◌∙◌}
use Rattle.entries.proofs.Derived.{key_equality}
use Rattle.entries.proofs.same.Goals as goal

pub returns : goal.returns
returns c = c.eq.ensures ∙ key_equality c.args.a c.args.b
