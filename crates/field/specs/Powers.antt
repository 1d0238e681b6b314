-- Powers of 2, and the laws by which tables of them give products: the exponents add, and 2 to the 255 is 1.
use Rattle.std.specs.Prelude.{◌≡◌, refl, ℕ, zero, suc, ◌<◌}
use Rattle.std.proofs.Common.{sym, ap, ◌∙◌, mod-eq_of_lt, zero-lt-suc}
use Rattle.std.specs.Int.Bits.{xor_zero_r}
use Rattle.field.specs.Byte.{double, scale, mul_digits, mul, inv, power_digits}

-- 2 to the n: the first is 1, and each next is twice the one before
unfoldable pub power : ℕ → ℕ
power zero = 1
power (suc n) = double (power n)

-- twice a byte is its product with 2
pub double-mul : (a : ℕ) → a < 256 → double a ≡ mul a 2
unfolding mul mul_digits scale
double-mul a h = sym (xor_zero_r _ ∙ ap double (mod-eq_of_lt h))

pub positive : (a : ℕ) → (a ≡ 0 → ⊥) → 0 < a
positive zero d = absurd (d refl)
positive (suc a) d = zero-lt-suc a

pub power_255 : power 255 ≡ 1
unfolding power double
power_255 = refl

pub inv-zero : inv 0 ≡ 0
unfolding inv power_digits mul mul_digits scale double
inv-zero = refl
