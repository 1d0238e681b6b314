-- The tests of a swap's target one after another, and what the call answers.
use Rattle.std.specs.Prelude.{◌≡◌, true, false, List, ℕ, ◌≤◌, ◌<◌, length}
use Rattle.std.proofs.Math.Path.{sym}
use Rattle.std.proofs.Common.{◌∙◌}
use borrow.Author.Tests.{lt-ltb, le-ltb, eq-eqb, ne_eqb}
use Rattle.lists.specs.Refusal.{◌or_else◌, refusal_by}
use Rattle.numbers.specs.declared.Layout.{Layout}
use Rattle.homes.specs.declared.Record.{Record}
use Rattle.homes.specs.Records.{failed}
use Rattle.homes.specs.Dropping.{without}
use Rattle.swapping.specs.Swapping.{swap_tests, swap_refusal, swapped_image, Swaps}
use Rattle.swapping.proofs.SwapLaws.{swap_accepted, swap_refused_unchanged, swap_record_lem}

module _ (y : Layout) (R : Record) (target : ℕ) where
  pub swap_outside : y.p ≤ target → 4 ≡ refusal_by (swap_tests y R target)
  unfolding refusal_by ◌or_else◌
  swap_outside h = sym (simp (le-ltb target y.p h))

  module _ (inside : target < y.p) where
    pub swap_alive : failed R target ≡ false → 11 ≡ refusal_by (swap_tests y R target)
    unfolding refusal_by ◌or_else◌
    swap_alive f = sym (simp (lt-ltb target y.p inside, f))

    module _ (is_failed : failed R target ≡ true) where
      pub swap_early : (R.q ≡ R.k → ⊥) → 16 ≡ refusal_by (swap_tests y R target)
      unfolding refusal_by ◌or_else◌
      swap_early f = sym (simp (lt-ltb target y.p inside, is_failed, ne_eqb R.q R.k f))

      pub swap_allowed : R.q ≡ R.k → 0 ≡ refusal_by (swap_tests y R target)
      unfolding refusal_by ◌or_else◌
      swap_allowed e = sym (simp (lt-ltb target y.p inside, is_failed, eq-eqb R.q R.k e))

module _ (y : Layout) (R : Record) (img : List ℕ) (target n : ℕ) (answer : n ≡ swap_refusal y R (length img) target) where
  pub answers_refused : (n ≡ 0 → ⊥) → Swaps y R img target n R img
  answers_refused f =
      let u = swap_refused_unchanged y R target img (λ z. f (answer ∙ z)) in
      record { answer = answer; rec = sym u.1; image = sym u.0 }

  pub answers_swapped : n ≡ 0 → (R' : Record) (img' : List ℕ) → R' ≡ without R target → img' ≡ swapped_image y R target img → Swaps y R img target 0 R' img'
  answers_swapped z R' img' r i =
      let a = sym answer ∙ z in
      record { answer = sym a; rec = r ∙ sym (swap_record_lem y R target img a); image = i ∙ sym (swap_accepted y R target img a) }
