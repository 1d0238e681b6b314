-- The ways in which the calls of a proposed plan end.
use Rattle.std.specs.Prelude.{◌≡◌, Bool, true, false, List, ℕ, ◌+◌, ◌*◌, ◌≤◌, ◌<◌, length}
use Rattle.std.proofs.Math.Path.{sym}
use Rattle.std.proofs.Common.{ap, ◌∙◌, mul-le-mul, arith, le-leb}
use Rattle.std.proofs.lemmas.Bool.{lt-leb}
use Rattle.lists.specs.Passing.{over}
use Rattle.lists.specs.Refusal.{◌or_else◌, refusal_by, or_else_left, or_else_right, grant_yes, grant_no}
use Rattle.numbers.specs.declared.Layout.{Layout}
use Rattle.numbers.specs.Layouts.{Valid, contents}
use Rattle.numbers.specs.Shapes.{layout_products}
use Rattle.homes.specs.declared.Record.{Record}
use Rattle.pool.specs.Counting.{missing_units}
use Rattle.pool.specs.CountLaws.{at_most}
use Rattle.pool.specs.Refusals.{repair_refusal}
use Rattle.pool.specs.Repairing.{mended}
use Rattle.pool.specs.Asked.{Sound, pool_first}
use Rattle.proposal.specs.Plans.{entry_size, entries, plan_good, Accepts}
use Rattle.proposal.specs.Running.{plan_tests, plan_refusal, planned_image, plan_record, plan_count}
use Rattle.proposal.proofs.RunningLaws.{plan_asked}
use Rattle.proposal.proofs.AcceptedLaws.{accepts_count}
use Rattle.proposal.proofs.PlanHolds.{plan_refused_unchanged, plan_accepted}
use Rattle.proposal.specs.Drawing.{drawn_length, drawn_plan, draw_tests, draw_refusal, draw_count, draw_out}
use Rattle.proposal.specs.Calls.{RepairsBy, Draws}

-- ---- the number of a plan

module _ (y : Layout) (R : Record) (len : ℕ) (plan : List ℕ) {n : ℕ} (e : n ≡ repair_refusal y R len) where
  first : plan_refusal y R len plan ≡ repair_refusal y R len or_else refusal_by (plan_tests y R plan)
  unfolding plan_refusal
  first = pool_first y R len (plan_tests y R plan)

  pub plan_unasked : (n ≡ 0 → ⊥) → n ≡ plan_refusal y R len plan
  plan_unasked f = e ∙ sym (first ∙ or_else_left _ _ (λ (z : repair_refusal y R len ≡ 0). f (e ∙ z)))

  pub plan_passes : n ≡ 0 → (b : Bool) → b ≡ plan_good y R plan → b ≡ true → 0 ≡ plan_refusal y R len plan
  unfolding refusal_by ◌or_else◌
  plan_passes z b is t = sym (first ∙ or_else_right _ _ (sym e ∙ z) ∙ simp (sym is ∙ t))

  pub plan_fails : n ≡ 0 → (b : Bool) → b ≡ plan_good y R plan → b ≡ false → 15 ≡ plan_refusal y R len plan
  unfolding refusal_by ◌or_else◌
  plan_fails z b is f = sym (first ∙ or_else_right _ _ (sym e ∙ z) ∙ simp (sym is ∙ f))

-- ---- the repair

pub run-asked : (y : Layout) (R : Record) (len : ℕ) (plan : List ℕ) {n : ℕ} → n ≡ plan_refusal y R len plan → n ≡ 0 → Sound y R len × Accepts y R plan
run-asked y R len plan e z = let a = plan_asked y R len plan (sym e ∙ z) in (a.sound, a.accepts)

module _ (y : Layout) (R : Record) (img plan : List ℕ) {n : ℕ} (e : n ≡ plan_refusal y R (length img) plan) where
  pub run-refused : (n ≡ 0 → ⊥) → RepairsBy y R img plan n 0 R img
  run-refused f =
      let u = plan_refused_unchanged y R plan img (λ z. f (e ∙ z)) in
      record { answer = e; pairs = sym u.2; rec = sym u.1; image = sym u.0 }

  pub run-done : n ≡ 0 → (img' : List ℕ) → img' ≡ planned_image y R plan img → RepairsBy y R img plan 0 (entries y plan) (mended R) img'
  unfolding plan_record plan_count
  run-done z img' is =
      let yes : plan_refusal y R (length img) plan ≡ 0 = sym e ∙ z in
      record {
        answer = sym yes;
        pairs = accepts_count y R plan (run-asked y R (length img) plan e z).1 ∙ sym (grant_yes _ (missing_units y R) 0 yes);
        rec = sym (grant_yes _ (mended R) R yes);
        image = is ∙ sym (plan_accepted y R plan img yes);
      }

-- ---- our planner

pub needed_is : (y : Layout) (R : Record) (waiting : ℕ) → waiting ≡ missing_units y R → (y.n + 2) * waiting ≡ drawn_length y R
needed_is y R waiting e = ap (λ (w : ℕ). (y.n + 2) * w) e

-- its plan is no longer than 18 numbers for each content of the pool
pub drawn_few : (y : Layout) → Valid y → (R : Record) → drawn_length y R ≤ 1434451968
drawn_few y v R =
    let few : missing_units y R ≤ 79691776 =
    omega (arith, at_most y R, mul-le-mul (layout_products y v).tile_groups (let c : contents y ≤ 19 = omega (arith, v.few_data, v.few_parity) in c)) in
    omega (arith, mul-le-mul (let s : entry_size y ≤ 18 = omega (arith, v.few_data) in s) few)

module _ (y : Layout) (R : Record) (img buf : List ℕ) where
  abbrev number : ℕ
  number = draw_refusal y R (length img) (length buf)

  refused : {m : ℕ} → m ≡ number → (m ≡ 0 → ⊥) → Draws y R img buf m 0 buf
  unfolding draw_count draw_out
  refused is f =
      let no : number ≡ 0 → ⊥ = λ z. f (is ∙ z) in
      record { answer = is; written = sym (grant_no number (drawn_length y R) 0 no); numbers = sym (grant_no number (over (drawn_plan y R) buf) buf no) }

  module _ {n : ℕ} (e : n ≡ repair_refusal y R (length img)) where
    asked : number ≡ repair_refusal y R (length img) or_else refusal_by (draw_tests y R (length buf))
    unfolding draw_refusal
    asked = pool_first y R (length img) (draw_tests y R (length buf))

    pub draw_unasked : (n ≡ 0 → ⊥) → Draws y R img buf n 0 buf
    draw_unasked f = refused (e ∙ sym (asked ∙ or_else_left _ _ (λ (z : repair_refusal y R (length img) ≡ 0). f (e ∙ z)))) f

    module _ (z : n ≡ 0) (needed : ℕ) (is : needed ≡ drawn_length y R) where
      pub draw_short : length buf < needed → Draws y R img buf 5 0 buf
      unfolding refusal_by ◌or_else◌
      draw_short h =
          refused (sym (asked ∙ or_else_right _ _ (sym e ∙ z) ∙ simp (lt-leb (drawn_length y R) (length buf) (omega (arith, h, is))))) (λ (q : 5 ≡ 0). absurd (omega arith))

      pub draw_done : needed ≤ length buf → (buf' : List ℕ) → buf' ≡ over (drawn_plan y R) buf → Draws y R img buf 0 needed buf'
      unfolding refusal_by ◌or_else◌ draw_count draw_out
      draw_done h buf' q =
          let yes : number ≡ 0 = asked ∙ or_else_right _ _ (sym e ∙ z) ∙ simp (le-leb (drawn_length y R) (length buf) (omega (arith, h, is))) in
          record { answer = sym yes; written = is ∙ sym (grant_yes number (drawn_length y R) 0 yes); numbers = q ∙ sym (grant_yes number (over (drawn_plan y R) buf) buf yes) }
