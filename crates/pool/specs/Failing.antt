-- fail: "Failing a target writes entry k and raises k by one". The image is lent for its length alone.
use Rattle.std.specs.Prelude.{ℕ, suc, set}
use Rattle.lists.specs.Refusal.{grant}
use Rattle.numbers.specs.declared.Layout.{Layout}
use Rattle.homes.specs.declared.Record.{Record}
use Rattle.pool.specs.Refusals.{raised, fail_refusal}

-- the record with one more entry and the raised count
abbrev pub grown : Layout → Record → ℕ → Record
grown y R target = record { failed = set R.failed R.k target; k = suc R.k; q = R.q; waiting = raised y R target }

unfoldable pub fail_record : Layout → Record → ℕ → ℕ → Record
fail_record y R len target = grant (fail_refusal y R len target) (grown y R target) R
