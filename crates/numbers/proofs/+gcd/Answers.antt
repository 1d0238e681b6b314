use Rattle.std.proofs.Common.{ap, sym, ◌∙◌, pos_of_ne-zero}
use Rattle.std.specs.Prelude.{ℕ}
use Rattle.numbers.specs.Gcd.{gcd as gcdOf, gcd-zero, gcd-step}
use Rattle.numbers.proofs.+gcd.Goals as goal

pub returns-then-b-eq0 : goal.returns-then-b-eq0
returns-then-b-eq0 t c = sym (ap (λ (b : ℕ). gcdOf c.args.a b) c.if-b-eq0.true ∙ gcd-zero c.args.a)

pub returns-else-b-eq0 : goal.returns-else-b-eq0
returns-else-b-eq0 t c = c.gcd.ensures ∙ sym (gcd-step c.args.a c.args.b (pos_of_ne-zero c.if-b-eq0.false))
