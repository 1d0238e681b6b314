-- Runs of numbers: x is one of the k from a on.
use Rattle.std.proofs.Common.{⊎_elim, ◌∙◌, arith, le-leb, lt-ltb, le-ltb, leb-true, ltb-true}
use Rattle.std.specs.Prelude.{Bool, true, false, ◌≡◌, ℕ, ◌+◌, ◌-◌, ◌<◌, ◌≤◌, leb, ltb}
use Rattle.std.proofs.lemmas.Bool.{lt-leb}
use Rattle.lists.specs.Pick.{both, both_true, pick_true, pick-false, either_way}

unfoldable pub within : ℕ → ℕ → ℕ → Bool
within a k x = both (leb a x) (ltb (x - a) k)

pub within-before : (a k x : ℕ) → x < a → within a k x ≡ false
unfolding within
within-before a k x h = pick-false (leb a x) _ _ (lt-leb a x h)

pub within_in : (a k x : ℕ) → a ≤ x → x < a + k → within a k x ≡ true
unfolding within
within_in a k x h b = pick_true (leb a x) _ _ (le-leb a x h) ∙ lt-ltb (x - a) k (omega arith)

pub within-after : (a k x : ℕ) → a + k ≤ x → within a k x ≡ false
unfolding within
within-after a k x h = pick_true (leb a x) _ _ (le-leb a x (omega arith)) ∙ le-ltb (x - a) k (omega arith)

pub within_of : (a k x : ℕ) → within a k x ≡ true → (a ≤ x) × (x - a < k)
unfolding within
within_of a k x e = let b = both_true (leb a x) (ltb (x - a) k) e in (leb-true a x b.0, ltb-true (x - a) k b.1)

-- x is in the run, or before it or after it
pub within-true : (a k x : ℕ) → within a k x ≡ true → (a ≤ x) × (x < a + k)
unfolding within
within-true a k x h =
    let b = both_true (leb a x) (ltb (x - a) k) h in
    let l = leb-true a x b.0 in
    let m = ltb-true (x - a) k b.1 in
    (l, omega arith)

pub within_cases : {A : Type 0} (a k x : ℕ) → (a ≤ x → x < a + k → A) → (within a k x ≡ false → A) → A
within_cases a k x f g =
    ⊎_elim (λ (t : within a k x ≡ true). let b = within-true a k x t in f b.0 b.1) (λ (t : within a k x ≡ false). g t) (either_way (within a k x))
