-- The first of n that does not pass, counted from 1: how a search for it ends, and that it is the first.
use Rattle.std.specs.Prelude.{◌≡◌, Bool, true, false}
use Rattle.std.proofs.Common.{sym, ◌∙◌, subst, ⊎_elim, arith}
use Rattle.std.proofs.Math.Path.{ap}
use Rattle.std.proofs.Math.Bool.{not}
use Prim.Native.Nat.{ℕ, suc, ◌<◌}
use Rattle.std.proofs.lemmas.Bool.{not-true, not-false}
use Rattle.lists.specs.Pick.{pick, pick_true, pick-false, either_way, clash, not-both_ways}
use Rattle.lists.specs.Search.{any, any_none, all, all-at, all_true, lowest, lowest_is, lowest_first, lowest-at}

-- 0 where all pass
unfoldable pub first_failing : (ℕ → Bool) → ℕ → ℕ
first_failing passes n = pick (all passes n) 0 (suc (lowest (λ i. not (passes i)) n))

module _ (passes : ℕ → Bool) (n : ℕ) where
  -- the two ways out of a search
  pub failing_at : (i : ℕ) → i < n → ((k : ℕ) → k < i → passes k ≡ true) → passes i ≡ false → first_failing passes n ≡ suc i
  unfolding first_failing
  failing_at i h ok w =
      pick-false (all passes n) 0 _ (not-both_ways (all passes n) (λ (t : all passes n ≡ true). clash (passes i) (all-at passes n t i h) w))
      ∙ ap suc (lowest-at (λ k. not (passes k)) n i h (ap not w) (λ k b. ap not (ok k b)))

  pub failing_none : ((k : ℕ) → k < n → passes k ≡ true) → first_failing passes n ≡ 0
  unfolding first_failing
  failing_none ok = pick_true (all passes n) 0 _ (all_true passes n ok)

  -- where one fails the lowest is given
  pub failing_lowest : all passes n ≡ false → first_failing passes n ≡ suc (lowest (λ i. not (passes i)) n)
  unfolding first_failing
  failing_lowest t = pick-false (all passes n) 0 _ t

  -- where all pass none is given
  pub all_pass : all passes n ≡ true → first_failing passes n ≡ 0
  all_pass t = failing_none (all-at passes n t)

  -- what makes number m, counted from 1, the first: each before it passes, and it does not
  pub record FirstFailing (m : ℕ) : Type 0 where
    pub before : (i : ℕ) → suc i < m → passes i ≡ true
    pub here : (i : ℕ) → m ≡ suc i → (i < n) × (passes i ≡ false)

  abbrev low : ℕ
  low = lowest (λ i. not (passes i)) n

  low_is : all passes n ≡ false → (low < n) × (passes low ≡ false)
  low_is t =
      ⊎_elim
      (λ (e : any (λ i. not (passes i)) n ≡ true). let r = lowest_is (λ i. not (passes i)) n e in (r.0, not-true (passes low) r.1))
      (λ (e : any (λ i. not (passes i)) n ≡ false).
      clash (all passes n) (all_true passes n (λ i h. not-false (passes i) (any_none (λ k. not (passes k)) n e i h))) t)
      (either_way (any (λ i. not (passes i)) n))

  -- the lowest that fails is the first
  pub lowest_fails : all passes n ≡ false → FirstFailing (suc low)
  lowest_fails t =
      let r = low_is t in
      record {
        before = λ i b. not-false (passes i) (lowest_first (λ k. not (passes k)) n i (omega arith) (omega (arith, r.0)));
        here = λ i s.
            let q : low ≡ i = omega (arith, s) in (subst (λ (k : ℕ). k < n) q r.0, ap passes (sym q) ∙ r.1);
      }

  -- where none is given all pass
  pub none_fails : first_failing passes n ≡ 0 → (i : ℕ) → i < n → passes i ≡ true
  none_fails e =
      ⊎_elim (λ (t : all passes n ≡ true). all-at passes n t)
      (λ (t : all passes n ≡ false). let b = failing_lowest t in absurd (omega (arith, b, e)))
      (either_way (all passes n))
