-- Sums in the field: f 0 + f 1 + .. + f (n - 1), where + is exclusive or.
use Rattle.std.specs.Prelude.{◌≡◌, refl, ℕ, zero, suc, ◌<◌}
use Rattle.std.proofs.Common.{ap, ap₂, ◌∙◌, le_trans, le_refl, lit<}
use Rattle.std.proofs.Math.Nat.{le-suc}
use Rattle.field.specs.Byte.{◌⊕◌, mul}
use Rattle.field.specs.Laws.{mul-zero}
use Rattle.field.specs.Ring.{⊕-zero, ⊕-lt, mul_⊕}

unfoldable pub sum_to : ℕ → (ℕ → ℕ) → ℕ
sum_to zero f = 0
sum_to (suc n) f = sum_to n f ⊕ f n

-- three terms
abbrev pub sum3 : (ℕ → ℕ) → ℕ
sum3 f = f 0 ⊕ (f 1 ⊕ f 2)

pub sum_cong : (n : ℕ) (f g : ℕ → ℕ) → ((j : ℕ) → j < n → f j ≡ g j) → sum_to n f ≡ sum_to n g
unfolding sum_to
sum_cong zero f g e = refl
sum_cong (suc n) f g e = ap₂ ◌⊕◌ (sum_cong n f g (λ j h. e j (le_trans h (le-suc n)))) (e n (le_refl (suc n)))

-- a sum of bytes is a byte
pub sum_lt : (n : ℕ) (f : ℕ → ℕ) → ((j : ℕ) → f j < 256) → sum_to n f < 256
unfolding sum_to
sum_lt zero f h = lit< tt
sum_lt (suc n) f h = ⊕-lt (sum_to n f) (f n) (sum_lt n f h) (h n)

pub sum-mul : (n a : ℕ) (f : ℕ → ℕ) → mul a (sum_to n f) ≡ sum_to n (λ j. mul a (f j))
unfolding sum_to
sum-mul zero a f = mul-zero a
sum-mul (suc n) a f = mul_⊕ a (sum_to n f) (f n) ∙ ap (◌⊕ mul a (f n)) (sum-mul n a f)

pub sum-zero : (n : ℕ) (f : ℕ → ℕ) → ((j : ℕ) → f j ≡ 0) → sum_to n f ≡ 0
unfolding sum_to
sum-zero zero f e = refl
sum-zero (suc n) f e = ap₂ ◌⊕◌ (sum-zero n f e) (e n) ∙ ⊕-zero 0
