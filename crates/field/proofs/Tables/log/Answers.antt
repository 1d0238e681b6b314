-- `field::Tables::log`. The table's rule, turned round (`log_power`).
use mathlib.Core.Path.{◌≡◌, sym, subst}
use Prim.Native.Nat.{ℕ, ◌<◌}
use lib.ListN.{get_or}
use borrow.Author.Rules.{rules}
use Rattle.field.specs.Powers.{power}
use Rattle.field.proofs.TablesLaws.{log_power}
use Rattle.field.proofs.Tables.log.Goals as goal

pub returns : goal.returns
returns c =
    let t = c.args.self.now in
    let a = c.args.a in
    let e : c.from-2.result ≡ get_or t.logs a 0 = search rules in
    subst (λ (n : ℕ). (n < 255) × (power n ≡ a)) (sym e) (log_power t.logs t.logs_right a c.requires (search rules))
