-- "Bytes are elements of the field of 256 with polynomial 0x11D; + is exclusive or." The product goes by shifting steps.
use Rattle.std.specs.Prelude.{ℕ, zero, suc, ◌*◌, ◌/◌, ◌%◌}
use Rattle.std.specs.Int.Bits.{bit_xor}

-- the sum
infixl 60 ◌⊕◌
unfoldable pub ◌⊕◌ : ℕ → ℕ → ℕ
a ⊕ b = bit_xor a b

-- twice a: shifted by one digit, and 0x11D taken off where a ninth digit came up (256 goes with it: 0x11D is 256 + 29)
unfoldable pub double : ℕ → ℕ
double a = bit_xor (a * 2 % 256) (a / 128 % 2 * 29)

-- a digit times a
unfoldable pub scale : ℕ → ℕ → ℕ
scale zero a = zero
scale (suc d) a = a

-- the n low digits of b, each times a shifted to its place
unfoldable pub mul_digits : ℕ → ℕ → ℕ → ℕ
mul_digits zero a b = zero
mul_digits (suc n) a b = bit_xor (scale (b % 2) a) (mul_digits n (double a) (b / 2))

-- the product; of larger numbers than bytes it takes the eight low digits, so that its laws ask for no bounds
unfoldable pub mul : ℕ → ℕ → ℕ
mul a b = mul_digits 8 (a % 256) b

-- the inverse of a is its power 254 = 2 + 4 + .. + 128, by squarings: p holds the product so far, s the square. Of 0 it is 0
unfoldable pub power_digits : ℕ → ℕ → ℕ → ℕ
power_digits zero p s = p
power_digits (suc n) p s = power_digits n (mul p s) (mul s s)

unfoldable pub inv : ℕ → ℕ
inv a = power_digits 7 1 (mul a a)

-- the quotient; by 0 it is 0
unfoldable pub div : ℕ → ℕ → ℕ
div a b = mul a (inv b)
