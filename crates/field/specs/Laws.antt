-- The laws of the field of 256. The product is linear in each of its arguments; a law with linear sides is then computed at powers of two.
use Rattle.std.specs.Prelude.{◌≡◌, refl, ℕ, zero, suc, ◌*◌, ◌/◌, ◌%◌, ◌^◌, ◌<◌, ◌≤◌, eqb}
use Rattle.std.proofs.Common.{sym, ap, ap₂, ◌∙◌, mod-lt, mod-eq_of_lt, zero-lt-suc, add-zero, not-suc-le-zero, le_of_suc-le-suc, arith, lit<}
use Rattle.std.proofs.Math.Nat.{mod-mod}
use Rattle.std.specs.Int.Bits.{bit_xor, differ, xor_self, xor_zero_r, shifted_even, shifted_half}
use Rattle.std.proofs.lemmas.Nat.{xor_block}
use Rattle.field.specs.Xor.{bit_cases, digit, xor_half, xor_odd, xor_swap}
use Rattle.field.specs.Linear.{high_low}
use Rattle.lists.specs.Search.{all, all-at, all-eq}
use Rattle.field.specs.Byte.{double, scale, mul_digits, mul, inv, power_digits}

pub xor_twice : (a b : ℕ) → bit_xor a b * 2 ≡ bit_xor (a * 2) (b * 2)
xor_twice a b = sym (simp add-zero at (xor_block 1 a b 0 0 (zero-lt-suc 1) (zero-lt-suc 1)))

pub differ_29 : (x y : ℕ) → x < 2 → y < 2 → differ x y * 29 ≡ bit_xor (x * 29) (y * 29)
differ_29 x y hx hy =
    bit_cases (λ (u : ℕ). differ u y * 29 ≡ bit_xor (u * 29) (y * 29)) refl
    (bit_cases (λ (v : ℕ). differ 1 v * 29 ≡ bit_xor 29 (v * 29)) refl refl y hy) x hx

-- a digit times a number, linear in each
scale_digit : (x y a : ℕ) → x < 2 → y < 2 → scale (differ x y) a ≡ bit_xor (scale x a) (scale y a)
unfolding scale
scale_digit x y a hx hy =
    bit_cases (λ (u : ℕ). scale (differ u y) a ≡ bit_xor (scale u a) (scale y a)) refl
    (bit_cases (λ (v : ℕ). scale (differ 1 v) a ≡ bit_xor a (scale v a)) (sym (xor_zero_r a)) (sym (xor_self a)) y hy) x hx

pub scale-add : (d a b : ℕ) → scale d (bit_xor a b) ≡ bit_xor (scale d a) (scale d b)
unfolding scale
scale-add zero a b = refl
scale-add (suc d) a b = refl

pub mul_digits-add_r : (n a b c : ℕ) → mul_digits n a (bit_xor b c) ≡ bit_xor (mul_digits n a b) (mul_digits n a c)
unfolding mul_digits
mul_digits-add_r zero a b c = refl
mul_digits-add_r (suc n) a b c =
    ap₂ bit_xor (ap (λ (d : ℕ). scale d a) (xor_odd b c) ∙ scale_digit (b % 2) (c % 2) a (digit b) (digit c))
    (ap (mul_digits n (double a)) (xor_half b c) ∙ mul_digits-add_r n (double a) (b / 2) (c / 2))
    ∙ xor_swap (scale (b % 2) a) (scale (c % 2) a) (mul_digits n (double a) (b / 2)) (mul_digits n (double a) (c / 2))

pub scale-lt : (d a : ℕ) → a < 256 → scale d a < 256
unfolding scale
scale-lt zero a h = lit< tt
scale-lt (suc d) a h = h

-- the product takes the eight low digits of each
mul_digits_high : (n a h : ℕ) → mul_digits n a (h * 2 ^ n) ≡ 0
unfolding mul_digits scale
mul_digits_high zero a h = refl
mul_digits_high (suc n) a h =
    ap₂ (λ (d r : ℕ). bit_xor (scale d a) (mul_digits n (double a) r)) (shifted_even h n) (shifted_half h n) ∙ mul_digits_high n (double a) h

mul_digits-low : (a b : ℕ) → mul_digits 8 a b ≡ mul_digits 8 a (b % 256)
mul_digits-low a b =
    ap (mul_digits 8 a) (high_low b 8) ∙ mul_digits-add_r 8 a (b / 256 * 256) (b % 256)
    ∙ ap (λ (x : ℕ). bit_xor x (mul_digits 8 a (b % 256))) (mul_digits_high 8 a (b / 256))

pub mul_low : (a b : ℕ) → mul a b ≡ mul (a % 256) (b % 256)
unfolding mul
mul_low a b = mul_digits-low (a % 256) b ∙ ap (λ (x : ℕ). mul_digits 8 x (b % 256)) (sym (mod-mod a 256))

-- the product distributes over the sum, on both sides
pub mul-xor : (a b c : ℕ) → mul a (bit_xor b c) ≡ bit_xor (mul a b) (mul a c)
unfolding mul
mul-xor a b c = mul_digits-add_r 8 (a % 256) b c

pub mul-zero : (a : ℕ) → mul a 0 ≡ 0
mul-zero a = mul-xor a 0 0 ∙ xor_self (mul a 0)

pub mul-one : (a : ℕ) → a < 256 → mul a 1 ≡ a
unfolding mul mul_digits scale
mul-one a h = xor_zero_r (a % 256) ∙ mod-eq_of_lt h

-- commutative: the 64 products of powers of two are computed
pub comm_basis : (i : ℕ) → i < 8 → (j : ℕ) → j < 8 → mul (2 ^ i) (2 ^ j) ≡ mul (2 ^ j) (2 ^ i)
unfolding all mul mul_digits double scale
comm_basis i hi =
    all-eq (λ j. mul (2 ^ i) (2 ^ j)) (λ j. mul (2 ^ j) (2 ^ i)) 8
    (all-at (λ i. all (λ j. eqb (mul (2 ^ i) (2 ^ j)) (mul (2 ^ j) (2 ^ i))) 8) 8 refl i hi)

pub low : (x : ℕ) → x % 256 < 256
low x = mod-lt x (lit< tt)

-- associative: the 512 products of three powers of two are computed
pub assoc_basis : (i : ℕ) → i < 8 → (j : ℕ) → j < 8 → (k : ℕ) → k < 8
    → mul (mul (2 ^ i) (2 ^ j)) (2 ^ k) ≡ mul (2 ^ i) (mul (2 ^ j) (2 ^ k))
unfolding all mul mul_digits double scale
assoc_basis i hi j hj =
    all-eq (λ k. mul (mul (2 ^ i) (2 ^ j)) (2 ^ k)) (λ k. mul (2 ^ i) (mul (2 ^ j) (2 ^ k))) 8
    (all-at (λ j. all (λ k. eqb (mul (mul (2 ^ i) (2 ^ j)) (2 ^ k)) (mul (2 ^ i) (mul (2 ^ j) (2 ^ k)))) 8) 8
    (all-at (λ i. all (λ j. all (λ k. eqb (mul (mul (2 ^ i) (2 ^ j)) (2 ^ k)) (mul (2 ^ i) (mul (2 ^ j) (2 ^ k)))) 8) 8) 8 refl i hi) j hj)

pub low_l : (a b : ℕ) → mul (a % 256) b ≡ mul a b
low_l a b = mul_low (a % 256) b ∙ ap (λ (x : ℕ). mul x (b % 256)) (mod-mod a 256) ∙ sym (mul_low a b)

pub low_r : (a b : ℕ) → mul a (b % 256) ≡ mul a b
low_r a b = mul_low a (b % 256) ∙ ap (mul (a % 256)) (mod-mod b 256) ∙ sym (mul_low a b)

-- every byte but 0 has an inverse: 255 products are computed
inv-all : (k : ℕ) → k < 255 → mul (suc k) (inv (suc k)) ≡ 1
unfolding all mul mul_digits double scale inv power_digits
inv-all = all-eq (λ k. mul (suc k) (inv (suc k))) (λ k. 1) 255 refl

pub mul-inv : (a : ℕ) → a < 256 → 0 < a → mul a (inv a) ≡ 1
mul-inv zero h p = absurd (not-suc-le-zero p)
mul-inv (suc k) h p = inv-all k (le_of_suc-le-suc h)

-- twice a byte, as a choice
pub double_high : (a : ℕ) → a < 256 → 127 < a → bit_xor (a * 2 % 256) 29 ≡ double a
unfolding double
double_high a h l = let d : 1 ≡ a / 128 % 2 = omega arith in ap (λ (z : ℕ). bit_xor (a * 2 % 256) (z * 29)) d

pub double-low : (a : ℕ) → a ≤ 127 → bit_xor (a * 2 % 256) 0 ≡ double a
unfolding double
double-low a h = let d : 0 ≡ a / 128 % 2 = omega arith in ap (λ (z : ℕ). bit_xor (a * 2 % 256) (z * 29)) d

pub double-zero : double 0 ≡ 0
unfolding double
double-zero = refl
