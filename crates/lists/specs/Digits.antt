-- A number by its digits m q + r with r < m, at a base that is a variable.
use Rattle.std.specs.Prelude.{◌≡◌, ℕ, suc, ◌+◌, ◌*◌, ◌/◌, ◌%◌, ◌≤◌, ◌<◌}
use Rattle.std.proofs.Common.{ap, ◌∙◌, subst, mul_comm, mul-le-mul_left, mod-eq_of_lt, add-zero, div-lt_iff_lt-mul, le_of_suc-le-suc, arith}
use Rattle.std.proofs.Math.Nat.{mul-add-div, mul-add-mod_self_left, div-eq_of_lt, div-add-mod, lt_of_mul-lt-mul_left}

pub div_of : (m q : ℕ) {r : ℕ} → r < m → (m * q + r) / m ≡ q
div_of m q {r} h = mul-add-div (omega arith) q r ∙ ap (λ (x : ℕ). q + x) (div-eq_of_lt h) ∙ add-zero q

pub mod_of : (m q : ℕ) {r : ℕ} → r < m → (m * q + r) % m ≡ r
mod_of m q {r} h = mul-add-mod_self_left m q r ∙ mod-eq_of_lt h

-- q below a, and any digit
pub digits_below : {q a m r : ℕ} → q < a → r < m → m * q + r < m * a
digits_below {q} {a} {m} {r} h k = omega (arith, mul-le-mul_left m h)

-- and back: the quotient is below a
pub div_below : (x m a : ℕ) → 0 < m → x < m * a → x / m < a
div_below x m a h k = (div-lt_iff_lt-mul h).1 (subst (λ (n : ℕ). x < n) (mul_comm m a) k)

-- numbers less than m apart that leave the same remainder by m are equal
pub close : (m x y : ℕ) → 0 < m → x ≤ y → y < x + m → x % m ≡ y % m → x ≡ y
close m x y hm le near e = by quot_le
  where
    xs : m * (x / m) + x % m ≡ x
    xs = div-add-mod x m

    ys : m * (y / m) + y % m ≡ y
    ys = div-add-mod y m

    -- the quotients are equal: a larger one is m further
    quot_le : y / m ≤ x / m
    quot_le = le_of_suc-le-suc (lt_of_mul-lt-mul_left m {m = y / m} {n = suc (x / m)} (omega (arith, xs, ys)))

    by : y / m ≤ x / m → x ≡ y
    by h = omega (arith, mul-le-mul_left m h, xs, ys)
