-- `updates::byte_starts`. What the closure answers for unit j.
use Rattle.std.proofs.Common.{rules}
use Rattle.updates.proofs.byte_starts.Goals as goal

pub returns : goal.returns
returns c = λ j h. let e = c.starts_by.ensures j h in search rules
