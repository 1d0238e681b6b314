-- The ways in which the panel and the audit end.
use Rattle.std.specs.Prelude.{◌≡◌, List, [], ◌∷◌, ℕ, eqb, length}
use Rattle.std.proofs.Math.Path.{sym}
use Rattle.std.proofs.Common.{◌∙◌, eq-eqb, ne_eqb}
use Rattle.lists.specs.Refusal.{◌or_else◌, refusal_by, or_else_left, or_else_right, grant_yes, grant_no}
use Rattle.numbers.specs.declared.Layout.{Layout}
use Rattle.homes.specs.declared.Record.{Record}
use Rattle.pool.specs.Counting.{missing_units}
use Rattle.pool.specs.Refusals.{repair_refusal}
use Rattle.pool.specs.Asked.{pool_first}
use Rattle.pool.specs.Auditing.{audit_refusal, panel_shows}
use Rattle.pool.specs.Calls.{Audits, Panels}

-- ---- the panel

module _ (y : Layout) (R : Record) (img : List ℕ) {n : ℕ} (e : n ≡ repair_refusal y R (length img)) where
  pub panel_refused : (n ≡ 0 → ⊥) → Panels y R img n 0 0 0
  unfolding panel_shows
  panel_refused f =
      let none : (m : ℕ) → 0 ≡ panel_shows y R (length img) m = λ m. sym (grant_no _ m 0 (λ (z : repair_refusal y R (length img) ≡ 0). f (e ∙ z))) in
      record { answer = e; waits = none R.waiting; fails = none R.k; mends = none R.q }

  pub panel_shown : n ≡ 0 → Panels y R img 0 R.waiting R.k R.q
  unfolding panel_shows
  panel_shown z =
      let yes : (m : ℕ) → m ≡ panel_shows y R (length img) m = λ m. sym (grant_yes _ m 0 (sym e ∙ z)) in
      record { answer = sym z ∙ e; waits = yes R.waiting; fails = yes R.k; mends = yes R.q }

-- ---- the audit

module _ (y : Layout) (R : Record) (img : List ℕ) {n : ℕ} (e : n ≡ repair_refusal y R (length img)) where
  afresh : audit_refusal y R (length img) ≡ repair_refusal y R (length img) or_else refusal_by ((eqb R.waiting (missing_units y R), 14) ∷ [])
  unfolding audit_refusal
  afresh = pool_first y R (length img) ((eqb R.waiting (missing_units y R), 14) ∷ [])

  pub audit_refused : (n ≡ 0 → ⊥) → Audits y R img n
  audit_refused f = record { answer = e ∙ sym (afresh ∙ or_else_left _ _ (λ (z : repair_refusal y R (length img) ≡ 0). f (e ∙ z))) }

  module _ (none : n ≡ 0) (fresh : ℕ) (is : fresh ≡ missing_units y R) where
    pub audit_true : R.waiting ≡ fresh → Audits y R img 0
    unfolding refusal_by ◌or_else◌
    audit_true q = record { answer = sym (afresh ∙ or_else_right _ _ (sym e ∙ none) ∙ simp (eq-eqb R.waiting (missing_units y R) (q ∙ is))) }

    pub audit_false : (R.waiting ≡ fresh → ⊥) → Audits y R img 14
    unfolding refusal_by ◌or_else◌
    audit_false q =
        record { answer = sym (afresh ∙ or_else_right _ _ (sym e ∙ none) ∙ simp (ne_eqb R.waiting (missing_units y R) (λ (z : R.waiting ≡ missing_units y R). q (z ∙ sym is)))) }
