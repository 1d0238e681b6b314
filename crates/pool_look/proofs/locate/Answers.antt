-- `pool_look::locate` meets its contract: refused it names an empty part, accepted the scratch or the unit's home.
use Rattle.std.proofs.Common.{◌≡◌, true, false, ℕ, refl, sym, ◌∙◌, arith}
use Rattle.std.proofs.lemmas.Result.{err_from_is_err_and}
use Rattle.lists.proofs.Answering.{refused}
use Rattle.lists.specs.Refusal.{grant_no}
use Rattle.pool.specs.Asked.{look_asked}
use Rattle.pool_look.specs.declared.Shown.{Shown}
use Rattle.pool_look.specs.Shown.{shown_at}
use Rattle.pool_look.specs.Looks.{content-small, located}
use Rattle.pool_look.proofs.locate.Goals as goal

-- an empty part, with the number
empty : {n m : ℕ} → n ≡ m
    → ◌≡◌ {A = Shown} (record { refusal = n; missing = false; begins = 0; length = 0 }) (record { refusal = m; missing = false; begins = 0; length = 0 })
empty e i = record { refusal = e i; missing = false; begins = 0; length = 0 }

pub returns-in_err-check_look : goal.returns-in_err-check_look
unfolding shown_at
returns-in_err-check_look c =
    let p = err_from_is_err_and c.from_residual.result c.from_residual.ensures.1 in
    let e = c.in_err-check_look.ensures in
    rw (p.1, p.2) (empty e ∙ sym (grant_no _ _ _ (λ z. refused _ (e ∙ z))))

pub plan_at-plan-requires : goal.plan_at-plan-requires
plan_at-plan-requires c = let a = look_asked _ _ _ _ _ _ (sym c.in_ok-check_look.ensures) in (a.sound, a.group_lt)

pub bounds-plan-c : goal.bounds-plan-c
bounds-plan-c c = content-small _ _ _ _ _ _ (look_asked _ _ _ _ _ _ (sym c.in_ok-check_look.ensures))

pub returns-then-plan-c : goal.returns-then-plan-c
unfolding shown_at
returns-then-plan-c c =
    let none = sym c.in_ok-check_look.ensures in
    located _ _ _ _ _ _ (look_asked _ _ _ _ _ _ none) _ c.plan_at-plan.ensures _ none true 0 c.if-plan-c.true refl

pub offset_bounds-plan-c : goal.offset_bounds-plan-c
offset_bounds-plan-c c = omega (arith, content-small _ _ _ _ _ _ (look_asked _ _ _ _ _ _ (sym c.in_ok-check_look.ensures)))

pub bounds-plan-c-2 : goal.bounds-plan-c-2
bounds-plan-c-2 c = content-small _ _ _ _ _ _ (look_asked _ _ _ _ _ _ (sym c.in_ok-check_look.ensures))

pub returns : goal.returns
unfolding shown_at
returns c =
    let none = sym c.in_ok-check_look.ensures in
    located _ _ _ _ _ _ (look_asked _ _ _ _ _ _ none) _ c.plan_at-plan.ensures _ none false _ c.if-plan-c.false refl
