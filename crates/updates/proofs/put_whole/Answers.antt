-- `updates::put_whole`. Nothing, or the sum over the bytes to write (`whole_made`).
use mathlib.Core.Path.{refl}
use Rattle.updates.specs.Steps.{parity_in, parity_off, whole_made}
use Rattle.updates.proofs.put_whole.Goals as goal

pub returns-then-missing-c : goal.returns-then-missing-c
returns-then-missing-c c = parity_off _ _ _ _ _ _ c.if-missing-c.true

pub returns : goal.returns
returns c = whole_made _ _ _ _ _ _ c.requires.0.right c.requires.2 _ c.line-coefs.ensures c.if-missing-c.false _ refl (parity_in _ _ _ _ _ c.requires.0 c.requires.1 c.requires.2) _ _ c.combine_put.ensures
