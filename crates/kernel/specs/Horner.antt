-- A product by the digits of a factor, highest first: double, and add where the digit is 1. A sum of products goes the same way, digit by digit.
use Rattle.std.specs.Prelude.{◌≡◌, refl, ℕ, zero, suc, ◌+◌, ◌-◌, ◌/◌, ◌%◌, ◌^◌, ◌<◌, ◌≤◌}
use Rattle.std.proofs.Common.{sym, ap, ap₂, ◌∙◌, le_refl, mod-eq_of_lt, div-one, zero-add, suc-add, add-one, arith, shr-shr}
use Rattle.std.specs.Int.Bits.{bit_xor}
use Rattle.std.proofs.lemmas.Nat.{xor_comm}
use Rattle.field.specs.Byte.{◌⊕◌, double, scale, mul_digits, mul}
use Rattle.field.specs.Laws.{double-zero}
use Rattle.field.proofs.Laws.{double-add, mul_comm}
use Rattle.field.specs.Ring.{⊕-zero}
use Rattle.field.proofs.RingLaws.{ring}
use Rattle.field.specs.Sum.{sum_to, sum_cong}

-- f k + 2 (f (k + 1) + 2 (.. f (k + n - 1)))
unfoldable pub poly : ℕ → ℕ → (ℕ → ℕ) → ℕ
poly zero k f = 0
poly (suc n) k f = double (poly n (suc k) f) ⊕ f k

double_⊕ : (a b : ℕ) → double (a ⊕ b) ≡ double a ⊕ double b
unfolding ◌⊕◌
double_⊕ a b = double-add a b

swap : (a b c d : ℕ) → (a ⊕ b) ⊕ (c ⊕ d) ≡ (a ⊕ c) ⊕ (b ⊕ d)
swap a b c d = simp ring

pub poly_cong : (n k : ℕ) (f g : ℕ → ℕ) → ((x : ℕ) → k ≤ x → x < k + n → f x ≡ g x) → poly n k f ≡ poly n k g
unfolding poly
poly_cong zero k f g e = refl
poly_cong (suc n) k f g e =
    ap₂ (λ (a b : ℕ). double a ⊕ b) (poly_cong n (suc k) f g (λ x h i. e x (omega arith) (omega arith))) (e k (le_refl k) (omega arith))

poly-zero : (n k : ℕ) → poly n k (λ x. 0) ≡ 0
unfolding poly
poly-zero zero k = refl
poly-zero (suc n) k = ⊕-zero (double (poly n (suc k) (λ x. 0))) ∙ ap double (poly-zero n (suc k)) ∙ double-zero

poly-add : (n k : ℕ) (f g : ℕ → ℕ) → poly n k (λ x. f x ⊕ g x) ≡ poly n k f ⊕ poly n k g
unfolding poly
poly-add zero k f g = sym (⊕-zero 0)
poly-add (suc n) k f g =
    ap (λ (a : ℕ). double a ⊕ (f k ⊕ g k)) (poly-add n (suc k) f g)
    ∙ ap (λ (a : ℕ). a ⊕ (f k ⊕ g k)) (double_⊕ (poly n (suc k) f) (poly n (suc k) g))
    ∙ swap (double (poly n (suc k) f)) (double (poly n (suc k) g)) (f k) (g k)

poly-double : (n k : ℕ) (f : ℕ → ℕ) → poly n k (λ x. double (f x)) ≡ double (poly n k f)
unfolding poly
poly-double zero k f = sym double-zero
poly-double (suc n) k f =
    ap (λ (a : ℕ). double a ⊕ double (f k)) (poly-double n (suc k) f) ∙ sym (double_⊕ (double (poly n (suc k) f)) (f k))

poly-sum : (n k m : ℕ) (g : ℕ → ℕ → ℕ) → poly n k (λ x. sum_to m (λ j. g j x)) ≡ sum_to m (λ j. poly n k (g j))
unfolding sum_to
poly-sum n k zero g = poly-zero n k
poly-sum n k (suc m) g = poly-add n k (λ x. sum_to m (λ j. g j x)) (g m) ∙ ap (◌⊕ poly n k (g m)) (poly-sum n k m g)

-- places that hold 0 at the top may be left out
pub poly_short : (n d k : ℕ) (f : ℕ → ℕ) → ((x : ℕ) → k + n ≤ x → x < k + (n + d) → f x ≡ 0) → poly n k f ≡ poly (n + d) k f
unfolding poly
poly_short zero d k f e = sym (ap (λ (m : ℕ). poly m k f) (zero-add d) ∙ poly_cong d k f (λ x. 0) (λ x h i. e x (omega arith) (omega arith)) ∙ poly-zero d k)
poly_short (suc n) d k f e =
    ap (λ (a : ℕ). double a ⊕ f k) (poly_short n d (suc k) f (λ x h i. e x (omega arith) (omega arith))) ∙ ap (λ (m : ℕ). poly m k f) (sym (suc-add n d))

scale-double : (d a : ℕ) → scale d (double a) ≡ double (scale d a)
unfolding scale
scale-double zero a = sym double-zero
scale-double (suc d) a = refl

digit_up : (c k : ℕ) → c / 2 ^ k / 2 ≡ c / 2 ^ suc k
digit_up c k = shr-shr c k 1 ∙ ap (λ (x : ℕ). c / 2 ^ x) (add-one k)

mul_digits-poly : (n k a c : ℕ) → mul_digits n a (c / 2 ^ k) ≡ poly n k (λ x. scale (c / 2 ^ x % 2) a)
unfolding mul_digits poly ◌⊕◌
mul_digits-poly zero k a c = refl
mul_digits-poly (suc n) k a c =
    ap (bit_xor (scale (c / 2 ^ k % 2) a))
    (ap (mul_digits n (double a)) (digit_up c k) ∙ mul_digits-poly n (suc k) (double a) c
    ∙ poly_cong n (suc k) (λ x. scale (c / 2 ^ x % 2) (double a)) (λ x. double (scale (c / 2 ^ x % 2) a)) (λ x h i. scale-double (c / 2 ^ x % 2) a)
    ∙ poly-double n (suc k) (λ x. scale (c / 2 ^ x % 2) a))
    ∙ xor_comm (scale (c / 2 ^ k % 2) a) (double (poly n (suc k) (λ x. scale (c / 2 ^ x % 2) a)))

mul-poly : (c s : ℕ) → s < 256 → poly 8 0 (λ x. scale (c / 2 ^ x % 2) s) ≡ mul c s
unfolding mul
mul-poly c s h =
    sym (mul_digits-poly 8 0 s c) ∙ ap₂ (mul_digits 8) (sym (mod-eq_of_lt h)) (div-one c) ∙ mul_comm s c

-- the sum of the s j whose factor has digit k
unfoldable pub plane : ℕ → (ℕ → ℕ) → (ℕ → ℕ) → ℕ → ℕ
plane n c s k = sum_to n (λ j. scale (c j / 2 ^ k % 2) (s j))

pub horner : (n top : ℕ) (c s : ℕ → ℕ) → ((j : ℕ) → j < n → s j < 256) → top ≤ 8 → ((k : ℕ) → top ≤ k → k < 8 → plane n c s k ≡ 0)
    → poly top 0 (plane n c s) ≡ sum_to n (λ j. mul (c j) (s j))
unfolding plane
horner n top c s b h z =
    poly_short top (8 - top) 0 (plane n c s) (λ x i j. z x (omega arith) (omega arith))
    ∙ ap (λ (m : ℕ). poly m 0 (plane n c s)) (let e : top + (8 - top) ≡ 8 = omega arith in e)
    ∙ poly-sum 8 0 n (λ j k. scale (c j / 2 ^ k % 2) (s j))
    ∙ sum_cong n (λ j. poly 8 0 (λ k. scale (c j / 2 ^ k % 2) (s j))) (λ j. mul (c j) (s j)) (λ j i. mul-poly (c j) (s j) (b j i))
