-- The low two digits of a product, in any base Q, from products of digits.
use Rattle.std.proofs.Common.{◌≡◌, ℕ, ◌+◌, ◌*◌, ◌/◌, ◌%◌, ◌^◌, ◌<◌, ◌≤◌, sym, refl, ap, ◌∙◌, add_assoc, mul_assoc, mul_comm, add-mul, mul-le-mul, add_comm, div-add-mod', mul-add, mul_left_comm, arith}
use native.Mathlib.Nat.{add-mod, add-mul-mod_self_right}

expand : (Q a₁ a₀ b₁ b₀ : ℕ) → (a₁ * Q + a₀) * (b₁ * Q + b₀) ≡ a₀ * b₀ + (a₁ * b₀ + a₀ * b₁) * Q + a₁ * b₁ * (Q * Q)
expand Q a₁ a₀ b₁ b₀ = simp (mul-add, add-mul, mul_assoc, mul_comm, mul_left_comm, add_assoc, add_comm) refl

-- of the upper digit only its remainder counts
upper : (Q x y : ℕ) → (x + y * Q) % (Q * Q) ≡ (x + y % Q * Q) % (Q * Q)
upper Q x y =
    ap (λ (z : ℕ). (x + z * Q) % (Q * Q)) (sym (div-add-mod' y Q))
    ∙ ap (λ (z : ℕ). z % (Q * Q)) (regroup x (y / Q) (y % Q))
    ∙ add-mul-mod_self_right (x + y % Q * Q) (y / Q) (Q * Q)
  where
    regroup : (x q r : ℕ) → x + (q * Q + r) * Q ≡ x + r * Q + q * (Q * Q)
    regroup x q r = simp (mul-add, add-mul, mul_assoc, mul_comm, mul_left_comm, add_assoc, add_comm) refl

pub low-digits : (Q a b : ℕ) → (a % Q * (b % Q) + (a / Q * (b % Q) % Q + a % Q * (b / Q) % Q) % Q * Q) % (Q * Q) ≡ a * b % (Q * Q)
low-digits Q a b =
    sym
    (ap (λ (x : ℕ). x * b % (Q * Q)) (sym (div-add-mod' a Q))
    ∙ ap (λ (y : ℕ). (a / Q * Q + a % Q) * y % (Q * Q)) (sym (div-add-mod' b Q))
    ∙ ap (λ (z : ℕ). z % (Q * Q)) (expand Q (a / Q) (a % Q) (b / Q) (b % Q))
    ∙ add-mul-mod_self_right (a % Q * (b % Q) + (a / Q * (b % Q) + a % Q * (b / Q)) * Q) (a / Q * (b / Q)) (Q * Q)
    ∙ upper Q (a % Q * (b % Q)) (a / Q * (b % Q) + a % Q * (b / Q))
    ∙ ap (λ (z : ℕ). (a % Q * (b % Q) + z * Q) % (Q * Q)) (add-mod (a / Q * (b % Q)) (a % Q * (b / Q)) Q))

-- a product of two numbers below 2^32 is below 2^64
pub half_product : {x y : ℕ} → x < 2 ^ 32 → y < 2 ^ 32 → x * y < 2 ^ 64
half_product {x} {y} hx hy =
    let hx' : x ≤ 4294967295 = omega arith in
    let hy' : y ≤ 4294967295 = omega arith in
    omega (arith, mul-le-mul hx' hy')
