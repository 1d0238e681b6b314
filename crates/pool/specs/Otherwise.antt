-- Fail's number as the code finds it: that of all other tests, and where there is none the raised count decides.
use Rattle.std.specs.Prelude.{◌≡◌, refl, Bool, true, ℕ, zero, suc, eqb, leb}
use Rattle.std.proofs.Common.{sym, ap, ◌∙◌, arith}
use Rattle.lists.specs.Pick.{equal_or_not}
use Rattle.lists.specs.Refusal.{unless, ◌or_else◌, refusal_by, or_else_left, or_else_right, grant_yes, grant_no, refusal_lowest, refusal_none, step-passes}
use Rattle.numbers.specs.declared.Layout.{Layout}
use Rattle.numbers.specs.Layouts.{all_contents, image_length}
use Rattle.numbers.specs.Refused.{validb}
use Rattle.homes.specs.declared.Record.{Record}
use Rattle.homes.specs.Records.{record_good}
use Rattle.pool.specs.Refusals.{pool_tests, target_tests, otherwise, raised, stays_within, fail_refusal}

pub or_none : (n : ℕ) → n or_else 0 ≡ n
unfolding ◌or_else◌
or_none zero = refl
or_none (suc n) = refl

-- where another test refuses a fail, the raised count does not
pub other_decides : (y : Layout) (R : Record) (len target : ℕ) → (otherwise y R len target ≡ 0 → ⊥) → stays_within y R len target ≡ true
other_decides y R len target ne = grant_no (otherwise y R len target) _ true ne
