-- `pool_swap::check_swap` meets its contract: what every call tests first, then the target's three tests.
use Rattle.std.proofs.Common.{◌≡◌, ℕ, refl, sym, ◌∙◌, arith}
use Rattle.lists.proofs.Answering.{refused, handed_on}
use Rattle.lists.specs.Refusal.{refusal_by}
use Rattle.numbers.specs.declared.Layout.{Layout}
use Rattle.homes.specs.declared.Record.{Record}
use Rattle.pool.specs.Refusals.{repair_refusal}
use Rattle.pool.specs.Asked.{repair_asked}
use Rattle.checks.specs.Tests.{refused_first, passed_first}
use Rattle.swapping.specs.Swapping.{swap_tests, swap_refusal}
use Rattle.pool_swap.specs.Answers.{swap_outside, swap_alive, swap_early, swap_allowed}
use Rattle.pool_swap.proofs.check_swap.Goals as goal

-- once what every call tests has passed, the call's own tests decide
own : (y : Layout) (r : Record) (len target : ℕ) {n : ℕ} → 0 ≡ repair_refusal y r len → n ≡ refusal_by (swap_tests y r target)
    → n ≡ swap_refusal y r len target
unfolding swap_refusal
own y r len target p e = e ∙ sym (passed_first _ _ _ _ p refl)

pub returns-in_err-check_pool : goal.returns-in_err-check_pool
unfolding swap_refusal
returns-in_err-check_pool c =
    handed_on _ c.in_err-check_pool.field-0.0 c.from_residual.ensures.1 (refused_first _ _ _ _ c.in_err-check_pool.ensures (refused _))

pub returns-then-y-target : goal.returns-then-y-target
returns-then-y-target c = own c.args.y c.args.r c.args.len c.args.target c.in_ok-check_pool.ensures (swap_outside c.args.y c.args.r _ c.if-y-target.true)

pub is_listed-requires : goal.is_listed-requires
is_listed-requires c = let s = repair_asked _ _ _ (sym c.in_ok-check_pool.ensures) in omega (arith, s.valid, s.good.few)

pub returns-then-not-is_listed : goal.returns-then-not-is_listed
returns-then-not-is_listed c =
    own c.args.y c.args.r c.args.len c.args.target c.in_ok-check_pool.ensures
    (swap_alive c.args.y c.args.r _ c.if-y-target.false (sym c.is_listed.ensures ∙ c.if-not-is_listed.true))

pub returns-then-r : goal.returns-then-r
returns-then-r c =
    own c.args.y c.args.r c.args.len c.args.target c.in_ok-check_pool.ensures
    (swap_early c.args.y c.args.r _ c.if-y-target.false (sym c.is_listed.ensures ∙ c.if-not-is_listed.false) c.if-r.true)

pub returns : goal.returns
returns c =
    own c.args.y c.args.r c.args.len c.args.target c.in_ok-check_pool.ensures
    (swap_allowed c.args.y c.args.r _ c.if-y-target.false (sym c.is_listed.ensures ∙ c.if-not-is_listed.false) c.if-r.false)
