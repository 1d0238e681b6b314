-- `updates::Run::names_all`. From unit 0 on, n units or more.
use native.Mathlib.Omega.{arith}
use borrow.Author.Tests.{leb-true}
use Rattle.lists.specs.Part.{within_in}
use Rattle.updates.proofs.Run.names_all.Goals as goal

pub returns-then-self-eq0 : goal.returns-then-self-eq0
returns-then-self-eq0 c = λ t j h. within_in _ _ j (omega (arith, c.if-self-eq0.true)) (omega (arith, c.if-self-eq0.true, leb-true c.args.n c.args.self.units t))
