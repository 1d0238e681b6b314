-- Sums in the field: f 0 + f 1 + .. + f (n - 1), where + is exclusive or.
use Rattle.std.specs.Prelude.{◌≡◌, ℕ, zero, suc}
use Rattle.std.proofs.Common.{sym, ap, ◌∙◌}
use Rattle.field.specs.Byte.{◌⊕◌}
use Rattle.field.specs.Ring.{⊕-zero}
use Rattle.field.proofs.RingLaws.{ring}
use Rattle.field.specs.Sum.{sum_to}

swap : (a b c d : ℕ) → (a ⊕ b) ⊕ (c ⊕ d) ≡ (a ⊕ c) ⊕ (b ⊕ d)
swap a b c d = simp ring

pub sum-add : (n : ℕ) (f g : ℕ → ℕ) → sum_to n (λ j. f j ⊕ g j) ≡ sum_to n f ⊕ sum_to n g
unfolding sum_to
sum-add zero f g = sym (⊕-zero 0)
sum-add (suc n) f g = ap (◌⊕ (f n ⊕ g n)) (sum-add n f g) ∙ swap (sum_to n f) (sum_to n g) (f n) (g n)
