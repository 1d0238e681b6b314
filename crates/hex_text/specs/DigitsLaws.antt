-- A number and its digits: the digits that are written tell the number, those that tell it are these; and how the code's loop writes them.
use Rattle.std.specs.Prelude.{◌≡◌, refl, true, List, length, set}
use Rattle.std.proofs.Common.{sym, ◌∙◌, subst, div-one, mul_comm, mod-lt, not-suc-le-zero}
use Rattle.std.proofs.Math.Path.{ap, ap₂}
use Prim.Native.Nat.{ℕ, zero, suc, ◌+◌, ◌*◌, ◌-◌, ◌/◌, ◌%◌, ◌^◌, ◌≤◌, ◌<◌}
use Rattle.std.proofs.Math.Nat.{pow-succ', div-div-eq-div-mul, div-add-mod}
use native.Mathlib.Omega.{arith}
use Rattle.lists.specs.Pick.{equal_or_not}
use Rattle.lists.specs.Search.{all-at, all_true}
use Rattle.lists.specs.Digits.{div_of, mod_of, div_below}
use Rattle.lists.specs.Span.{Span, span_none, span_back, span_cong, span_to}
use Rattle.lists.specs.Put.{Put}
use Rattle.lists.specs.Tabulate.{at, length-tabulate, get_d_tabulate}
use Rattle.hex_text.specs.Hex.{hex_digit, digit_at, digits_of}
use Rattle.hex_text.specs.Digit.{is_digit, digit_value, digits_at, number_at}
use Rattle.hex_text.specs.DigitLaws.{value_lt, digit_value_lem, told-low}

-- ---- a number and its digits

-- every digit but the last is one of the number without its last
digit_before : (x k : ℕ) → digit_at x (suc k) ≡ digit_at (x / 16) k
digit_before x k = ap (λ (y : ℕ). hex_digit (y % 16)) (ap (λ (y : ℕ). x / y) (pow-succ' 16 k) ∙ sym (div-div-eq-div-mul x 16 (16 ^ k)))

last_digit : (q : ℕ) {r : ℕ} → r < 16 → digit_at (16 * q + r) 0 ≡ hex_digit r
last_digit q {r} h = ap (λ (y : ℕ). hex_digit (y % 16)) (div-one (16 * q + r)) ∙ ap hex_digit (mod_of 16 q h)

place-before : (n j : ℕ) → j < n → suc n - 1 - j ≡ suc (n - 1 - j)
place-before n j h = omega arith

module _ (l : List ℕ) (a : ℕ) where
  -- where the digits of a number stand, they tell the number
  pub number_digits : (n x : ℕ) → x < 16 ^ n → ((j : ℕ) → j < n → at l (a + j) ≡ digit_at x (n - 1 - j)) → number_at l a n ≡ x
  unfolding number_at
  number_digits zero x h d = omega arith
  number_digits (suc n) x h d =
      ap₂ (λ (q r : ℕ). 16 * q + r) (number_digits n (x / 16) small (λ j k. d j (omega arith) ∙ ap (digit_at x) (place-before n j k) ∙ digit_before x (n - 1 - j))) last
      ∙ div-add-mod x 16
    where
      small : x / 16 < 16 ^ n
      small = div_below x 16 (16 ^ n) (omega arith) (omega (arith, pow-succ' 16 n))

      end : suc n - 1 - n ≡ 0
      end = omega arith

      last : digit_value (at l (a + n)) ≡ x % 16
      last =
          ap digit_value (d n (omega arith) ∙ ap (digit_at x) end ∙ ap (λ (y : ℕ). hex_digit (y % 16)) (div-one x)) ∙ digit_value_lem (x % 16) (mod-lt x (omega arith))

  -- the digits of the number that digits tell are these
  pub digits_number : (n : ℕ) → digits_at l a n ≡ true → (j : ℕ) → j < n → digit_at (number_at l a n) (n - 1 - j) ≡ at l (a + j)
  unfolding number_at
  digits_number zero t j h = absurd (not-suc-le-zero h)
  digits_number (suc n) t j h =
      equal_or_not j n last
      (λ (f : j ≡ n → ⊥).
      let k : j < n = omega arith in
      ap (digit_at whole) (place-before n j k) ∙ digit_before whole (n - 1 - j)
      ∙ ap (λ (x : ℕ). digit_at x (n - 1 - j)) (div_of 16 (number_at l a n) (value_lt (at l (a + n))))
      ∙ digits_number n (all_true (λ i. is_digit (at l (a + i))) n (λ i b. all-at (λ i. is_digit (at l (a + i))) (suc n) t i (omega arith))) j k)
    where
      whole : ℕ
      whole = 16 * number_at l a n + digit_value (at l (a + n))

      is : is_digit (at l (a + n)) ≡ true
      is = all-at (λ i. is_digit (at l (a + i))) (suc n) t n (omega arith)

      end : (j : ℕ) → j ≡ n → suc n - 1 - j ≡ 0
      end j e = omega arith

      last : j ≡ n → digit_at whole (suc n - 1 - j) ≡ at l (a + j)
      last e =
          let v = value_lt (at l (a + n)) in
          ap (digit_at whole) (end j e) ∙ last_digit (number_at l a n) v ∙ sym (last_digit (digit_value (at l (a + n))) v)
          ∙ told-low (at l (a + n)) (at l (a + n)) is is ∙ ap (λ (i : ℕ). at l (a + i)) (sym e)

pub length_digits : (n x : ℕ) → length (digits_of n x) ≡ n
unfolding digits_of
length_digits n x = length-tabulate n _

pub digits_at_lem : (n x j : ℕ) → j < n → at (digits_of n x) j ≡ digit_at x (n - 1 - j)
unfolding digits_of
digits_at_lem n x j h = get_d_tabulate n (λ i. digit_at x (n - 1 - i)) j 0 h

-- ---- written, the last digit first

-- what stands at place i of a text that has the n digits of x from place a on
abbrev pub hex_digit_from : ℕ → ℕ → ℕ → ℕ → ℕ
hex_digit_from n x a i = digit_at x (n - 1 - (i - a))

-- what is left of x when none of its digits is written
pub rest_whole : (n x : ℕ) → x ≡ x / 16 ^ (n - n)
rest_whole n x = sym (div-one x) ∙ ap (λ (k : ℕ). x / 16 ^ k) (let z : 0 ≡ n - n = omega arith in z)

module _ (n x a : ℕ) where
  pub none_written : (l : List ℕ) → Span (hex_digit_from n x a) (a + n) (a + n) l l
  none_written l = span_none (hex_digit_from n x a) (a + n) l refl

  -- `left` digits are still to be written
  pub number_write_turn : (left : ℕ) {rest i v : ℕ} {old : List ℕ} (l : List ℕ) → 0 < left → left ≤ n → a + n ≤ length l → rest ≡ x / 16 ^ (n - left)
      → i ≡ a + (left - 1) → v ≡ hex_digit (rest % 16) → Span (hex_digit_from n x a) (a + left) (a + n) old l
      → Span (hex_digit_from n x a) (a + (left - 1)) (a + n) old (set l i v)
  number_write_turn left {rest} {i} {v} {old} l some few room er ei ev s =
      subst (λ (z : ℕ). Span (hex_digit_from n x a) (a + (left - 1)) (a + n) old (set l z v)) (sym ei)
      (span_back (hex_digit_from n x a) (a + (left - 1)) (a + n) l v (omega arith) (omega arith)
      (subst (λ (z : ℕ). Span (hex_digit_from n x a) z (a + n) old l) (let q : a + left ≡ a + (left - 1) + 1 = omega arith in q) s)
      (ev ∙ ap (λ (r : ℕ). hex_digit (r % 16)) (er ∙ ap (λ (k : ℕ). x / 16 ^ k) (let q : n - left ≡ n - 1 - (a + (left - 1) - a) = omega arith in q))))

  pub rest_turn : (left : ℕ) {rest : ℕ} → 0 < left → left ≤ n → rest ≡ x / 16 ^ (n - left) → rest / 16 ≡ x / 16 ^ (n - (left - 1))
  rest_turn left some few e =
      ap (λ (r : ℕ). r / 16) e ∙ div-div-eq-div-mul x (16 ^ (n - left)) 16
      ∙ ap (λ (y : ℕ). x / y) (mul_comm (16 ^ (n - left)) 16 ∙ sym (pow-succ' 16 (n - left)))
      ∙ ap (λ (k : ℕ). x / 16 ^ k) (let q : suc (n - left) ≡ n - (left - 1) = omega arith in q)

  pub digits_put : {old new : List ℕ} → Span (hex_digit_from n x a) a (a + n) old new → Put a (digits_of n x) old new
  digits_put s =
      span_cong (hex_digit_from n x a) (λ i. at (digits_of n x) (i - a)) a (a + length (digits_of n x))
      (λ i h k. sym (digits_at_lem n x (i - a) (let e = length_digits n x in omega (arith, e))))
      (span_to (a + n) (a + length (digits_of n x)) (ap (λ (m : ℕ). a + m) (sym (length_digits n x))) s)
