-- Two functions that take exclusive or to exclusive or are equal below 2 ^ k where they are at the k powers of two.
use Rattle.std.specs.Prelude.{◌≡◌, ℕ, zero, suc, ◌*◌, ◌/◌, ◌%◌, ◌^◌, ◌<◌}
use Rattle.std.proofs.Common.{sym, ap, ap₂, ◌∙◌, mod-lt, le_refl, le_trans, one-mul, zero-mul, one-add, pow_pos, shr_lt}
use Rattle.std.proofs.Math.Nat.{le-suc}
use Rattle.std.proofs.Math.Arith.{lt-one}
use Rattle.std.proofs.Math.Pow.{split}
use Rattle.std.specs.Int.Bits.{bit_xor, xor_shifted, xor_self}
use Rattle.field.specs.Xor.{bit_cases}

abbrev pub Additive : (ℕ → ℕ) → Type 0
Additive f = (x y : ℕ) → f (bit_xor x y) ≡ bit_xor (f x) (f y)

pub additive_zero : (f : ℕ → ℕ) → Additive f → f 0 ≡ 0
additive_zero f h = h 0 0 ∙ xor_self (f 0)

-- a number is its high digits and its low ones
pub high_low : (x k : ℕ) → x ≡ bit_xor (x / 2 ^ k * 2 ^ k) (x % 2 ^ k)
high_low x k = sym (xor_shifted (x / 2 ^ k) k (x % 2 ^ k) (mod-lt x (pow_pos k)) ∙ split x k)

module _ (f g : ℕ → ℕ) (hf : Additive f) (hg : Additive g) where
  at_zero : f 0 ≡ g 0
  at_zero = additive_zero f hf ∙ sym (additive_zero g hg)

  at_top : (k : ℕ) → f (2 ^ k) ≡ g (2 ^ k) → (d : ℕ) → d < 2 → f (d * 2 ^ k) ≡ g (d * 2 ^ k)
  at_top k e =
      bit_cases (λ (d : ℕ). f (d * 2 ^ k) ≡ g (d * 2 ^ k)) (rw zero-mul at_zero) (rw one-mul e)

  pub linear_ext : (k : ℕ) → ((i : ℕ) → i < k → f (2 ^ i) ≡ g (2 ^ i)) → (x : ℕ) → x < 2 ^ k → f x ≡ g x
  linear_ext zero b x h = rw (lt-one h) at_zero
  linear_ext (suc k) b x h =
      ap f (high_low x k) ∙ hf (x / 2 ^ k * 2 ^ k) (x % 2 ^ k)
      ∙ ap₂ bit_xor (at_top k (b k (le_refl (suc k))) (x / 2 ^ k) (shr_lt 1 k (rw one-add h)))
      (linear_ext k (λ i l. b i (le_trans l (le-suc k))) (x % 2 ^ k) (mod-lt x (pow_pos k)))
      ∙ sym (hg (x / 2 ^ k * 2 ^ k) (x % 2 ^ k)) ∙ ap g (sym (high_low x k))
