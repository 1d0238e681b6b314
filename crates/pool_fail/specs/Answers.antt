-- The three ways in which a fail ends.
use Rattle.std.proofs.Math.Path.{◌≡◌, sym, ap}
use Rattle.std.proofs.Common.{◌∙◌, arith, le-leb}
use Rattle.std.specs.Prelude.{Bool, List, ℕ, ◌+◌, ◌≤◌, ◌<◌, leb, length}
use Rattle.std.proofs.Math.Numerals.{add-one}
use Rattle.std.proofs.Math.ListN.{set}
use Rattle.std.proofs.lemmas.Bool.{lt-leb}
use Rattle.lists.specs.Refusal.{unless, or_else_left, or_else_right, grant_yes, grant_no}
use Rattle.numbers.specs.declared.Layout.{Layout}
use Rattle.numbers.specs.declared.Shape.{Shape}
use Rattle.numbers.specs.Answers.{Shaped}
use Rattle.numbers.specs.Layouts.{all_contents}
use Rattle.homes.specs.declared.Record.{Record}
use Rattle.homes.specs.Listed.{unlisted_sub}
use Rattle.homes.specs.Records.{entry}
use Rattle.pool.specs.Counting.{on_target}
use Rattle.pool.specs.Refusals.{otherwise, raised, fail_refusal}
use Rattle.pool.specs.Failing.{grown, fail_record}
use Rattle.pool.specs.Asked.{FailAsked}
use Rattle.pool.specs.Calls.{Fails}
use Rattle.pool.proofs.OtherwiseLaws.{fail_by_steps}
use Rattle.tally.specs.Walking.{Walking}

module _ (y : Layout) (R : Record) (img : List ℕ) (target n : ℕ) (e : n ≡ otherwise y R (length img) target) where
  pub fail_refused : (n ≡ 0 → ⊥) → Fails y R img target n R
  unfolding fail_record
  fail_refused f =
      let is : fail_refusal y R (length img) target ≡ n =
      fail_by_steps y R (length img) target ∙ or_else_left _ _ (λ (z : otherwise y R (length img) target ≡ 0). f (e ∙ z)) ∙ sym e in
      record { answer = sym is; rec = sym (grant_no _ _ R (λ (z : fail_refusal y R (length img) target ≡ 0). f (sym is ∙ z))) }

  module _ (none : n ≡ 0) where
    by_count : fail_refusal y R (length img) target ≡ unless (leb (raised y R target) (all_contents y)) 3
    by_count = fail_by_steps y R (length img) target ∙ or_else_right _ _ (sym e ∙ none)

    -- with the contents on the target counted
    module _ (more : ℕ) (is-more : more ≡ on_target y R target) where
      pub fail_over : all_contents y < R.waiting + more → Fails y R img target 3 R
      unfolding fail_record
      fail_over h =
          let is : fail_refusal y R (length img) target ≡ 3 =
          by_count ∙ ap (λ (b : Bool). unless b 3) (lt-leb (raised y R target) (all_contents y) (omega (arith, h, is-more))) in
          record {
            answer = sym is;
            rec = sym (grant_no _ _ R (λ (z : fail_refusal y R (length img) target ≡ 0). let q : ◌≡◌ {A = ℕ} 3 0 = sym is ∙ z in absurd (omega arith)));
          }

      pub fail_done : R.waiting + more ≤ all_contents y
          → Fails y R img target 0 (record { failed = set R.failed R.k target; k = R.k + 1; q = R.q; waiting = R.waiting + more })
      unfolding fail_record
      fail_done h =
          let is : fail_refusal y R (length img) target ≡ 0 =
          by_count ∙ ap (λ (b : Bool). unless b 3) (le-leb (raised y R target) (all_contents y) (omega (arith, h, is-more))) in
          record {
            answer = sym is;
            rec =
                (λ i. record { failed = set R.failed R.k target; k = add-one R.k i; q = R.q; waiting = R.waiting + is-more i })
                ∙ sym (grant_yes _ (grown y R target) R is);
          }

-- a target that may fail can be walked over
pub can_walk : (y : Layout) (s : Shape) (R : Record) (len target : ℕ) → Shaped y s → FailAsked y R len target → Walking y s R target
can_walk y s R len target z a =
    record {
      valid = a.sound.valid;
      shape = z;
      good = a.sound.good;
      target_lt = a.target_lt;
      unrepaired = unlisted_sub (entry R) R.q R.k target a.sound.good.mended a.new;
    }
