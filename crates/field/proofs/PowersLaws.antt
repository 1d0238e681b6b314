-- Powers of 2, and the laws by which tables of them give products: the exponents add, and 2 to the 255 is 1.
use Rattle.std.specs.Prelude.{◌≡◌, ℕ, zero, suc, ◌+◌, ◌-◌, ◌<◌, ◌≤◌}
use Rattle.std.proofs.Common.{sym, ap, ap₂, ◌∙◌, zero-lt-suc, suc-ne-zero, add-zero, add-suc, arith, lit<}
use Rattle.field.specs.Byte.{double, mul, inv}
use Rattle.field.specs.Laws.{mul-one, mul-inv}
use Rattle.field.proofs.Laws.{double-lt, mul_assoc, mul_left_inj, no_zero_divisors, inv-lt}
use Rattle.field.specs.Powers.{power, double-mul, positive, power_255}

pub power-lt : (n : ℕ) → power n < 256
unfolding power
power-lt zero = lit< tt
power-lt (suc n) = double-lt (power n)

-- no power is 0
pub power_pos : (n : ℕ) → 0 < power n
unfolding power
power_pos zero = zero-lt-suc 0
power_pos (suc n) =
    positive (double (power n))
    (λ e. suc-ne-zero 1 (no_zero_divisors (power n) 2 (power-lt n) (lit< tt) (power_pos n) (sym (double-mul (power n) (power-lt n)) ∙ e)))

-- the exponents add
pub power-add : (m n : ℕ) → power (m + n) ≡ mul (power m) (power n)
unfolding power
power-add m zero = ap power (add-zero m) ∙ sym (mul-one (power m) (power-lt m))
power-add m (suc n) =
    ap power (add-suc m n) ∙ double-mul (power (m + n)) (power-lt (m + n)) ∙ ap (λ (x : ℕ). mul x 2) (power-add m n)
    ∙ mul_assoc (power m) (power n) 2 ∙ ap (mul (power m)) (sym (double-mul (power n) (power-lt n)))

-- so 255 may be taken off an exponent
pub power_turn : (n : ℕ) → power (n + 255) ≡ power n
power_turn n = power-add n 255 ∙ ap (mul (power n)) power_255 ∙ mul-one (power n) (power-lt n)

-- the same, for an exponent of at least 255
pub power_turned : (s : ℕ) → 255 ≤ s → power (s - 255) ≡ power s
power_turned s h = let same : s - 255 + 255 ≡ s = omega arith in sym (power_turn (s - 255)) ∙ ap power same

-- the product of two powers
pub mul_powers : (m n a b : ℕ) → power m ≡ a → power n ≡ b → power (m + n) ≡ mul a b
mul_powers m n a b ea eb = power-add m n ∙ ap₂ mul ea eb

-- the inverse of a power
pub inv-power : (n a : ℕ) → n ≤ 255 → power n ≡ a → power (255 - n) ≡ inv a
inv-power n a h e =
    let whole : n + (255 - n) ≡ 255 = omega arith in
    mul_left_inj (power n) (power (255 - n)) (inv (power n)) (power-lt n) (power-lt (255 - n)) (inv-lt (power n)) (power_pos n)
    (sym (power-add n (255 - n)) ∙ ap power whole ∙ power_255 ∙ sym (mul-inv (power n) (power-lt n) (power_pos n)))
    ∙ ap inv e
