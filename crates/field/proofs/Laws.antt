-- The laws of the field of 256. The product is linear in each of its arguments; a law with linear sides is then computed at powers of two.
use Rattle.std.specs.Prelude.{◌≡◌, refl, ℕ, zero, suc, ◌*◌, ◌/◌, ◌%◌, ◌^◌, ◌<◌}
use Rattle.std.proofs.Common.{sym, ap, ap₂, ◌∙◌, mod-lt, arith, lit<}
use Rattle.std.specs.Int.Bits.{bit_xor, xor_self}
use Rattle.std.proofs.lemmas.Nat.{xor_mod, xor_shr, xor_lt}
use Rattle.field.specs.Xor.{digit, xor_odd, xor_swap}
use Rattle.field.specs.Linear.{Additive, linear_ext}
use Rattle.field.specs.Byte.{double, scale, mul_digits, mul, inv, power_digits, div}
use Rattle.field.specs.Laws.{xor_twice, differ_29, scale-add, scale-lt, mul_low, mul-xor, mul-zero, mul-one, comm_basis, low, assoc_basis, low_l, low_r, mul-inv}

pub double-add : Additive double
unfolding double
double-add a b =
    ap₂ bit_xor (ap (λ (x : ℕ). x % 256) (xor_twice a b) ∙ xor_mod (a * 2) (b * 2) 8)
    (ap (λ (x : ℕ). x % 2 * 29) (xor_shr a b 7)
    ∙ ap (λ (x : ℕ). x * 29) (xor_odd (a / 128) (b / 128))
    ∙ differ_29 (a / 128 % 2) (b / 128 % 2) (digit (a / 128)) (digit (b / 128)))
    ∙ xor_swap (a * 2 % 256) (b * 2 % 256) (a / 128 % 2 * 29) (b / 128 % 2 * 29)

pub mul_digits-add_l : (n a b c : ℕ) → mul_digits n (bit_xor a b) c ≡ bit_xor (mul_digits n a c) (mul_digits n b c)
unfolding mul_digits
mul_digits-add_l zero a b c = refl
mul_digits-add_l (suc n) a b c =
    ap₂ bit_xor (scale-add (c % 2) a b)
    (ap (λ (x : ℕ). mul_digits n x (c / 2)) (double-add a b) ∙ mul_digits-add_l n (double a) (double b) (c / 2))
    ∙ xor_swap (scale (c % 2) a) (scale (c % 2) b) (mul_digits n (double a) (c / 2)) (mul_digits n (double b) (c / 2))

-- a product is a byte
pub double-lt : (a : ℕ) → double a < 256
unfolding double
double-lt a = xor_lt 8 (a * 2 % 256) (a / 128 % 2 * 29) (mod-lt (a * 2) (lit< tt)) (omega (arith, digit (a / 128)))

mul_digits-lt : (n a b : ℕ) → a < 256 → mul_digits n a b < 256
unfolding mul_digits
mul_digits-lt zero a b h = lit< tt
mul_digits-lt (suc n) a b h = xor_lt 8 (scale (b % 2) a) (mul_digits n (double a) (b / 2)) (scale-lt (b % 2) a h) (mul_digits-lt n (double a) (b / 2) (double-lt a))

pub mul-lt : (a b : ℕ) → mul a b < 256
unfolding mul
mul-lt a b = mul_digits-lt 8 (a % 256) b (mod-lt a (lit< tt))

pub xor-mul : (a b c : ℕ) → mul (bit_xor a b) c ≡ bit_xor (mul a c) (mul b c)
unfolding mul
xor-mul a b c = ap (λ (x : ℕ). mul_digits 8 x c) (xor_mod a b 8) ∙ mul_digits-add_l 8 (a % 256) (b % 256) c

-- zero and one
pub zero-mul : (b : ℕ) → mul 0 b ≡ 0
zero-mul b = xor-mul 0 0 b ∙ xor_self (mul 0 b)

byte_comm : (a b : ℕ) → a < 256 → b < 256 → mul a b ≡ mul b a
byte_comm a b ha hb =
    linear_ext (λ x. mul x b) (λ x. mul b x) (λ x y. xor-mul x y b) (λ x y. mul-xor b x y) 8
    (λ i hi. linear_ext (λ y. mul (2 ^ i) y) (λ y. mul y (2 ^ i)) (λ x y. mul-xor (2 ^ i) x y) (λ x y. xor-mul x y (2 ^ i)) 8
    (comm_basis i hi) b hb) a ha

pub mul_comm : (a b : ℕ) → mul a b ≡ mul b a
mul_comm a b = mul_low a b ∙ byte_comm (a % 256) (b % 256) (low a) (low b) ∙ sym (mul_low b a)

byte_assoc : (a b c : ℕ) → a < 256 → b < 256 → c < 256 → mul (mul a b) c ≡ mul a (mul b c)
byte_assoc a b c ha hb hc =
    linear_ext (λ x. mul (mul x b) c) (λ x. mul x (mul b c))
    (λ x y. ap (λ (u : ℕ). mul u c) (xor-mul x y b) ∙ xor-mul (mul x b) (mul y b) c) (λ x y. xor-mul x y (mul b c)) 8
    (λ i hi. linear_ext (λ x. mul (mul (2 ^ i) x) c) (λ x. mul (2 ^ i) (mul x c))
    (λ x y. ap (λ (u : ℕ). mul u c) (mul-xor (2 ^ i) x y) ∙ xor-mul (mul (2 ^ i) x) (mul (2 ^ i) y) c)
    (λ x y. ap (mul (2 ^ i)) (xor-mul x y c) ∙ mul-xor (2 ^ i) (mul x c) (mul y c)) 8
    (λ j hj. linear_ext (λ x. mul (mul (2 ^ i) (2 ^ j)) x) (λ x. mul (2 ^ i) (mul (2 ^ j) x))
    (λ x y. mul-xor (mul (2 ^ i) (2 ^ j)) x y)
    (λ x y. ap (mul (2 ^ i)) (mul-xor (2 ^ j) x y) ∙ mul-xor (2 ^ i) (mul (2 ^ j) x) (mul (2 ^ j) y)) 8
    (assoc_basis i hi j hj) c hc) b hb) a ha

pub mul_assoc : (a b c : ℕ) → mul (mul a b) c ≡ mul a (mul b c)
mul_assoc a b c =
    sym (low_r (mul a b) c) ∙ ap (λ (x : ℕ). mul x (c % 256)) (mul_low a b)
    ∙ byte_assoc (a % 256) (b % 256) (c % 256) (low a) (low b) (low c)
    ∙ low_l a (mul (b % 256) (c % 256)) ∙ ap (mul a) (sym (mul_low b c))

pub mul_left_comm : (a b c : ℕ) → mul a (mul b c) ≡ mul b (mul a c)
mul_left_comm a b c = sym (mul_assoc a b c) ∙ ap (λ (x : ℕ). mul x c) (mul_comm a b) ∙ mul_assoc b a c

pub one-mul : (a : ℕ) → a < 256 → mul 1 a ≡ a
one-mul a h = mul_comm 1 a ∙ mul-one a h

power_digits-lt : (n p s : ℕ) → p < 256 → power_digits n p s < 256
unfolding power_digits
power_digits-lt zero p s h = h
power_digits-lt (suc n) p s h = power_digits-lt n (mul p s) (mul s s) (mul-lt p s)

pub inv-lt : (a : ℕ) → inv a < 256
unfolding inv
inv-lt a = power_digits-lt 7 1 (mul a a) (lit< tt)

pub div-lt : (a b : ℕ) → div a b < 256
unfolding div
div-lt a b = mul-lt a (inv b)

-- a factor other than 0 is taken off an equation: so there are no divisors of zero
pub mul_cancel : (a b : ℕ) → a < 256 → b < 256 → 0 < a → mul (inv a) (mul a b) ≡ b
mul_cancel a b ha hb p =
    sym (mul_assoc (inv a) a b) ∙ ap (λ (x : ℕ). mul x b) (mul_comm (inv a) a ∙ mul-inv a ha p) ∙ one-mul b hb

pub mul_left_inj : (a b c : ℕ) → a < 256 → b < 256 → c < 256 → 0 < a → mul a b ≡ mul a c → b ≡ c
mul_left_inj a b c ha hb hc p e = sym (mul_cancel a b ha hb p) ∙ ap (mul (inv a)) e ∙ mul_cancel a c ha hc p

pub no_zero_divisors : (a b : ℕ) → a < 256 → b < 256 → 0 < a → mul a b ≡ 0 → b ≡ 0
no_zero_divisors a b ha hb p e = mul_left_inj a b 0 ha hb (lit< tt) p (e ∙ sym (mul-zero a))

-- the quotient is the one byte that gives a back
pub div-mul : (a b : ℕ) → a < 256 → b < 256 → 0 < b → mul (div a b) b ≡ a
unfolding div
div-mul a b ha hb p =
    mul_assoc a (inv b) b ∙ ap (mul a) (mul_comm (inv b) b ∙ mul-inv b hb p) ∙ mul-one a ha

pub div_unique : (a b q : ℕ) → a < 256 → b < 256 → q < 256 → 0 < b → mul q b ≡ a → q ≡ div a b
div_unique a b q ha hb hq p e =
    mul_left_inj b q (div a b) hb hq (div-lt a b) p
    (mul_comm b q ∙ e ∙ sym (div-mul a b ha hb p) ∙ mul_comm (div a b) b)
