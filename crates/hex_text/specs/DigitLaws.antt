-- A digit and its value: each tells the other; and a byte by its two digits.
use Rattle.std.specs.Prelude.{◌≡◌, false, ℕ, ◌+◌, ◌*◌, ◌-◌, ◌/◌, ◌%◌, ◌^◌, ◌≤◌, ◌<◌, ltb}
use Rattle.std.proofs.Common.{sym, ◌∙◌, div-one, mod-lt, zero-lt-suc, mod-eq_of_lt, arith, lt-ltb, le-ltb}
use Rattle.std.proofs.Math.Path.{ap, subst}
use Rattle.std.proofs.Math.Bool.{true}
use Rattle.std.proofs.Math.Nat.{div-add-mod}
use Rattle.lists.specs.Pick.{pick, pick_true, pick-false, below_or_not, clash}
use Rattle.lists.specs.Part.{within, within_in, within-after, within-true, within_cases}
use Rattle.lists.specs.Digits.{div_of, mod_of, div_below}
use Rattle.hex_text.specs.Hex.{hex_digit, digit_at}
use Rattle.hex_text.specs.Digit.{is_digit, digit_value}

module _ (c : ℕ) where
  low_value : 48 ≤ c → c < 58 → digit_value c ≡ c - 48
  unfolding digit_value
  low_value h k = pick_true (within 48 10 c) _ _ (within_in 48 10 c h k)

  high_value : 97 ≤ c → c < 103 → digit_value c ≡ c - 87
  unfolding digit_value
  high_value h k = pick-false (within 48 10 c) _ _ (within-after 48 10 c (omega arith)) ∙ pick_true (within 97 6 c) _ _ (within_in 97 6 c h k)

  low_is : 48 ≤ c → c < 58 → is_digit c ≡ true
  unfolding is_digit
  low_is h k = pick_true (within 48 10 c) _ _ (within_in 48 10 c h k)

  high_is : 97 ≤ c → c < 103 → is_digit c ≡ true
  unfolding is_digit
  high_is h k = pick-false (within 48 10 c) _ _ (within-after 48 10 c (omega arith)) ∙ within_in 97 6 c h k

  -- a digit is in one of the two runs
  digit_cases : {A : Type 0} → is_digit c ≡ true → (48 ≤ c → c < 58 → A) → (97 ≤ c → c < 103 → A) → A
  unfolding is_digit
  digit_cases e f g =
      within_cases 48 10 c (λ h k. f h k)
      (λ (t : within 48 10 c ≡ false). let b = within-true 97 6 c (sym (pick-false (within 48 10 c) true (within 97 6 c) t) ∙ e) in g b.0 b.1)

  -- a digit is below 128, and counts its low half, 9 more where it is a letter
  pub digit_lt : is_digit c ≡ true → c < 128
  digit_lt e = digit_cases e (λ h k. omega arith) (λ h k. omega arith)

  pub digit_counts : is_digit c ≡ true → c % 16 + c / 64 * 9 ≡ digit_value c
  digit_counts e =
      let p = div-add-mod c 16 in
      let l = mod-lt c (zero-lt-suc 15) in
      let q = div-add-mod c 64 in
      let m = mod-lt c (zero-lt-suc 63) in
      digit_cases e (λ h k. let v = low_value h k in omega (arith, p, l, q, m, v)) (λ h k. let v = high_value h k in omega (arith, p, l, q, m, v))

  -- the value is below 16, and its digit is the one it came from
  pub value_lt : digit_value c < 16
  unfolding digit_value
  value_lt =
      within_cases 48 10 c (λ h k. let e = low_value h k in omega (arith, e))
      (λ (t : within 48 10 c ≡ false).
      within_cases 97 6 c (λ h k. let e = high_value h k in omega (arith, e))
      (λ (w : within 97 6 c ≡ false).
      let e : digit_value c ≡ 0 = pick-false (within 48 10 c) _ _ t ∙ pick-false (within 97 6 c) _ _ w in omega (arith, e)))

  -- what is no digit counts 0
  pub none_value : is_digit c ≡ false → digit_value c ≡ 0
  unfolding digit_value
  none_value e =
      within_cases 48 10 c (λ h k. clash (is_digit c) (low_is h k) e)
      (λ (t : within 48 10 c ≡ false).
      within_cases 97 6 c (λ h k. clash (is_digit c) (high_is h k) e)
      (λ (w : within 97 6 c ≡ false). pick-false (within 48 10 c) _ _ t ∙ pick-false (within 97 6 c) _ _ w))

  value_digit : is_digit c ≡ true → hex_digit (digit_value c) ≡ c
  unfolding hex_digit
  value_digit e =
      digit_cases e
      (λ h k. ap (λ (x : ℕ). pick (ltb x 10) (48 + x) (87 + x)) (low_value h k) ∙ pick_true (ltb (c - 48) 10) _ _ (lt-ltb (c - 48) 10 (omega arith)) ∙ (omega arith))
      (λ h k. ap (λ (x : ℕ). pick (ltb x 10) (48 + x) (87 + x)) (high_value h k) ∙ pick-false (ltb (c - 87) 10) _ _ (le-ltb (c - 87) 10 (omega arith)) ∙ (omega arith))

-- every number below 16 has a digit, and the digit's value is the number
module _ (x : ℕ) (h : x < 16) where
  by_digit : (P : ℕ → Type 0) → (x < 10 → P (48 + x)) → (10 ≤ x → P (87 + x)) → P (hex_digit x)
  unfolding hex_digit
  by_digit P f g =
      below_or_not x 10 (λ (a : x < 10). subst P (sym (pick_true (ltb x 10) (48 + x) (87 + x) (lt-ltb x 10 a))) (f a))
      (λ (a : 10 ≤ x). subst P (sym (pick-false (ltb x 10) (48 + x) (87 + x) (le-ltb x 10 a))) (g a))

  pub digit_is : is_digit (hex_digit x) ≡ true
  digit_is =
      by_digit (λ c. is_digit c ≡ true) (λ a. low_is (48 + x) (omega arith) (omega arith)) (λ a. high_is (87 + x) (omega arith) (omega arith))

  pub digit_value_lem : digit_value (hex_digit x) ≡ x
  digit_value_lem =
      by_digit (λ c. digit_value c ≡ x) (λ a. low_value (48 + x) (omega arith) (omega arith) ∙ (omega arith))
      (λ a. high_value (87 + x) (omega arith) (omega arith) ∙ (omega arith))

-- ---- a byte by its two digits

-- what the two digits of a byte tell is the byte
pub byte_told : (b : ℕ) → b < 256 → 16 * digit_value (digit_at b 1) + digit_value (digit_at b 0) ≡ b
byte_told b h =
    (λ i. 16 * first i + second i) ∙ div-add-mod b 16
  where
    first : digit_value (digit_at b 1) ≡ b / 16
    first = digit_value_lem (b / 16 % 16) (mod-lt (b / 16) (zero-lt-suc 15)) ∙ mod-eq_of_lt (div_below b 16 16 (omega arith) (omega arith))

    second : digit_value (digit_at b 0) ≡ b % 16
    second = digit_value_lem (b / 16 ^ 0 % 16) (mod-lt (b / 16 ^ 0) (zero-lt-suc 15)) ∙ ap (λ (x : ℕ). x % 16) (div-one b)

-- what two characters tell is a byte
pub told-lt : (c d : ℕ) → 16 * digit_value c + digit_value d < 256
told-lt c d = omega (arith, value_lt c, value_lt d)

-- the two digits of the byte that two digits tell are these
module _ (c d : ℕ) (hc : is_digit c ≡ true) (hd : is_digit d ≡ true) where
  pub told_high : digit_at (16 * digit_value c + digit_value d) 1 ≡ c
  told_high =
      ap (λ (x : ℕ). hex_digit (x % 16)) (div_of 16 (digit_value c) (value_lt d)) ∙ ap hex_digit (mod-eq_of_lt (value_lt c)) ∙ value_digit c hc

  pub told-low : digit_at (16 * digit_value c + digit_value d) 0 ≡ d
  told-low =
      ap (λ (x : ℕ). hex_digit (x % 16)) (div-one (16 * digit_value c + digit_value d)) ∙ ap hex_digit (mod_of 16 (digit_value c) (value_lt d)) ∙ value_digit d hd
