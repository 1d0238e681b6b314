-- `checks::check_failing` meets its contract: what every call tests first, then the target's three tests.
use mathlib.Core.Path.{◌≡◌, refl, sym, ◌∙◌}
use Prim.Native.Nat.{ℕ}
use native.Mathlib.Omega.{arith}
use Rattle.lists.proofs.Answering.{refused, handed_on}
use Rattle.numbers.specs.declared.Layout.{Layout}
use Rattle.homes.specs.declared.Record.{Record}
use Rattle.lists.specs.Refusal.{refusal_by}
use Rattle.pool.specs.Refusals.{target_tests, otherwise, repair_refusal}
use Rattle.checks.specs.Tests.{refused_first, passed_first, target_outside, target_again, target_dud, target_fails}
use Rattle.pool.specs.Asked.{repair_asked}
use Rattle.checks.proofs.check_failing.Goals as goal

-- once that has passed, the call's own tests decide
own : (y : Layout) (r : Record) (len target : ℕ) {n : ℕ} → 0 ≡ repair_refusal y r len → n ≡ refusal_by (target_tests y r target) → n ≡ otherwise y r len target
unfolding otherwise
own y r len target p e = e ∙ sym (passed_first _ _ _ _ p refl)

pub returns-in_err-check_pool : goal.returns-in_err-check_pool
unfolding otherwise
returns-in_err-check_pool c = handed_on _ c.in_err-check_pool.field-0.0 c.from_residual.ensures.1 (refused_first _ _ _ _ c.in_err-check_pool.ensures (refused _))

pub returns-then-y-target : goal.returns-then-y-target
returns-then-y-target c = own c.args.y c.args.r c.args.len c.args.target c.in_ok-check_pool.ensures (target_outside c.args.y c.args.r _ c.if-y-target.true)

pub is_listed-requires : goal.is_listed-requires
is_listed-requires c = let s = repair_asked _ _ _ (sym c.in_ok-check_pool.ensures) in omega (arith, s.valid, s.good.few)

pub returns-then-is_listed : goal.returns-then-is_listed
returns-then-is_listed c =
    own c.args.y c.args.r c.args.len c.args.target c.in_ok-check_pool.ensures
    (target_again c.args.y c.args.r _ c.if-y-target.false (sym c.is_listed.ensures ∙ c.if-is_listed.true))

pub returns-then-r-y : goal.returns-then-r-y
returns-then-r-y c =
    own c.args.y c.args.r c.args.len c.args.target c.in_ok-check_pool.ensures
    (target_dud c.args.y c.args.r _ c.if-y-target.false (sym c.is_listed.ensures ∙ c.if-is_listed.false) c.if-r-y.true)

pub returns : goal.returns
returns c =
    own c.args.y c.args.r c.args.len c.args.target c.in_ok-check_pool.ensures
    (target_fails c.args.y c.args.r _ c.if-y-target.false (sym c.is_listed.ensures ∙ c.if-is_listed.false) c.if-r-y.false)
