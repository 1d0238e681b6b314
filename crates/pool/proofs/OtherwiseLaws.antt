-- Fail's number as the code finds it: that of all other tests, and where there is none the raised count decides.
use Rattle.std.specs.Prelude.{◌≡◌, refl, Bool, true, ℕ, zero, suc, eqb, leb}
use Rattle.std.proofs.Common.{sym, ap, ◌∙◌, arith}
use Rattle.lists.specs.Pick.{equal_or_not}
use Rattle.lists.specs.Refusal.{unless, ◌or_else◌, refusal_by, or_else_left, or_else_right, grant_yes, grant_no, refusal_lowest, refusal_none, step-passes}
use Rattle.numbers.specs.declared.Layout.{Layout}
use Rattle.numbers.specs.Layouts.{all_contents, image_length}
use Rattle.numbers.specs.Refused.{validb}
use Rattle.homes.specs.declared.Record.{Record}
use Rattle.homes.specs.Records.{record_good}
use Rattle.pool.specs.Refusals.{pool_tests, target_tests, otherwise, raised, stays_within, fail_refusal}
use Rattle.pool.specs.Otherwise.{or_none, other_decides}

pub fail_by_steps : (y : Layout) (R : Record) (len target : ℕ)
    → fail_refusal y R len target ≡ otherwise y R len target or_else unless (leb (raised y R target) (all_contents y)) 3
unfolding fail_refusal otherwise refusal_by
fail_by_steps y R len target =
    equal_or_not (otherwise y R len target) 0
    (λ (z : otherwise y R len target ≡ 0).
    let p = (refusal_lowest 1 (pool_tests y R len (target_tests y R target)) (omega arith) refl).none z in
    step-passes (validb y) 1 _ p.0
    ∙ step-passes (eqb len (image_length y)) 2 _ p.1.0
    ∙ step-passes (record_good y R) 3 _ p.1.1.0
    ∙ step-passes (leb R.waiting (all_contents y)) 3 _ p.1.1.1.0
    ∙ ap (λ (n : ℕ). unless (stays_within y R len target) 3 or_else n) (refusal_none (target_tests y R target) p.1.1.1.1)
    ∙ or_none (unless (stays_within y R len target) 3)
    ∙ ap (λ (b : Bool). unless b 3) (grant_yes (otherwise y R len target) _ true z)
    ∙ sym (or_else_right (otherwise y R len target) _ z))
    (λ (ne : otherwise y R len target ≡ 0 → ⊥).
    ap (λ (n : ℕ). unless (validb y) 1 or_else (unless (eqb len (image_length y)) 2 or_else (unless (record_good y R) 3 or_else (unless (leb R.waiting (all_contents y)) 3 or_else n))))
    (step-passes (stays_within y R len target) 3 _ (other_decides y R len target ne))
    ∙ sym (or_else_left (otherwise y R len target) _ ne))
