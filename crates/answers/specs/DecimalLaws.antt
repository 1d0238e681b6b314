-- The digits of a number, as the code's loops find and write them.
use Rattle.std.specs.Prelude.{◌≡◌, refl, Bool, true, false, List, ℕ, zero, suc, ◌+◌, ◌-◌, ◌/◌, ◌%◌, ◌*◌, ◌^◌, ◌≤◌, ◌<◌, ltb, length, set}
use Rattle.std.proofs.Common.{sym, ap, ◌∙◌, subst, ⊎_elim, arith, lt-ltb, le-ltb}
use Rattle.std.proofs.Math.Nat.{pow-suc, pow-le-pow_right}
use Rattle.std.proofs.lemmas.Nat.{le-div}
use Rattle.lists.specs.Digits.{div_below}
use Rattle.lists.specs.Pick.{either_way, equal_or_not}
use Rattle.lists.specs.Search.{any, lowest, any_false, lowest-at, lowest_is, lowest-none}
use Rattle.lists.specs.Span.{Span, span_back, span_cong, span_to}
use Rattle.lists.specs.Put.{Put}
use Rattle.lists.specs.Tabulate.{at, length-tabulate, get_d_tabulate}
use Rattle.answers.specs.Decimal.{tenths, places, decimal}

-- ---- how many

abbrev is_one : ℕ → ℕ → Bool
is_one n i = ltb (tenths i n) 10

pub none_tenth : (n : ℕ) → n ≡ tenths 0 n
unfolding tenths
none_tenth n = refl

pub next_tenth : (n i : ℕ) {rest : ℕ} → rest ≡ tenths i n → rest / 10 ≡ tenths (i + 1) n
unfolding tenths
next_tenth n i e = ap (λ (x : ℕ). x / 10) e ∙ ap (λ (k : ℕ). tenths k n) (let q : suc i ≡ i + 1 = omega arith in q)

-- before turn i more than one digit was left each time
abbrev pub Longer : ℕ → ℕ → Type 0
Longer n i = (k : ℕ) → k < i → 10 ≤ tenths k n

pub longer_none : (n : ℕ) → Longer n 0
longer_none n k h = absurd (omega arith)

pub longer_next : (n i : ℕ) {rest : ℕ} → rest ≡ tenths i n → 10 ≤ rest → Longer n i → Longer n (i + 1)
longer_next n i e h l k b =
    equal_or_not k i (λ (q : k ≡ i). subst (λ (x : ℕ). 10 ≤ x) (e ∙ ap (λ (j : ℕ). tenths j n) (sym q)) h) (λ (q : k ≡ i → ⊥). l k (omega arith))

pub places-at : (n i : ℕ) {rest : ℕ} → i < 19 → rest ≡ tenths i n → rest < 10 → Longer n i → i + 1 ≡ places n
unfolding places
places-at n i h e k l =
    let one = lowest-at (is_one n) 19 i h (ap (λ (x : ℕ). ltb x 10) (sym e) ∙ lt-ltb _ 10 k) (λ j b. le-ltb (tenths j n) 10 (l j b)) in
    omega (arith, one)

pub places-all : (n : ℕ) → Longer n 19 → 20 ≡ places n
unfolding places
places-all n l =
    let none = lowest-none (is_one n) 19 (any_false (is_one n) 19 (λ j b. le-ltb (tenths j n) 10 (l j b))) in
    omega (arith, none)

-- how many tenths are left after i divisions
tenths_below : (n i m : ℕ) → n < m * 10 ^ i → tenths i n < m
unfolding tenths
tenths_below n zero m h = omega (arith, h)
tenths_below n (suc i) m h =
    div_below (tenths i n) 10 m (omega arith) (tenths_below n i (10 * m) (let k = subst (λ (p : ℕ). n < m * p) (pow-suc 10 i) h in omega (arith, k)))

tenths_least : (n i m : ℕ) → m * 10 ^ i ≤ n → m ≤ tenths i n
unfolding tenths
tenths_least n zero m h = omega (arith, h)
tenths_least n (suc i) m h =
    le-div m (tenths i n) 10 (omega arith) (tenths_least n i (m * 10) (let k = subst (λ (p : ℕ). m * p ≤ n) (pow-suc 10 i) h in omega (arith, k)))

-- before the division that leaves one digit more than one was left each time
longer_power : (n i : ℕ) → 10 ^ i ≤ n → (k : ℕ) → k < i → 10 ≤ tenths k n
longer_power n i h k b =
    tenths_least n k 10
    (let p = pow-suc 10 k in let q = pow-le-pow_right {n = 10} (omega arith) {i = suc k} {j = i} b in omega (arith, p, q, h))

-- a number has one digit more than the exponent of the greatest power of ten that it reaches
pub places-power : (n i : ℕ) → 10 ^ i ≤ n → n < 10 * 10 ^ i → i < 20 → i + 1 ≡ places n
unfolding places
places-power n i least most few = equal_or_not i 19 all some
  where
    more : (k : ℕ) → k < i → is_one n k ≡ false
    more k b = le-ltb (tenths k n) 10 (longer_power n i least k b)

    all : i ≡ 19 → i + 1 ≡ suc (lowest (is_one n) 19)
    all e =
        let none = lowest-none (is_one n) 19 (any_false (is_one n) 19 (λ k b. more k (omega (arith, e, b)))) in
        omega (arith, e, none)

    some : (i ≡ 19 → ⊥) → i + 1 ≡ suc (lowest (is_one n) 19)
    some f =
        let one = lowest-at (is_one n) 19 i (omega (arith, f, few)) (lt-ltb (tenths i n) 10 (tenths_below n i 10 most)) more in
        omega (arith, one)

pub places-none : 1 ≡ places 0
unfolding places tenths
places-none =
    let one = lowest-at (is_one 0) 19 0 (omega arith) refl (λ k b. absurd (omega (arith, b))) in
    omega (arith, one)

pub places-few : (n : ℕ) → (0 < places n) × (places n ≤ 20)
unfolding places
places-few n =
    ⊎_elim (λ (t : any (is_one n) 19 ≡ true). let b = (lowest_is (is_one n) 19 t).0 in (omega arith, omega (arith, b)))
    (λ (t : any (is_one n) 19 ≡ false). let b = lowest-none (is_one n) 19 t in (omega arith, omega (arith, b))) (either_way (any (is_one n) 19))

pub decimal-length : (n : ℕ) → length (decimal n) ≡ places n
unfolding decimal
decimal-length n = length-tabulate (places n) _

digit_here : (n j : ℕ) → j < places n → at (decimal n) j ≡ 48 + tenths (places n - 1 - j) n % 10
unfolding decimal
digit_here n j h = get_d_tabulate (places n) (λ i. 48 + tenths (places n - 1 - i) n % 10) j 0 h

-- ---- written, the last digit first

-- what stands at place x of a text that has the number from place a on
abbrev pub digit_from : ℕ → ℕ → ℕ → ℕ
digit_from n a x = 48 + tenths (places n - 1 - (x - a)) n % 10

module _ (n a : ℕ) where
  -- left digits are still to be written
  pub decimal_turn : (left : ℕ) {rest x v : ℕ} {old : List ℕ} (l : List ℕ) → 0 < left → left ≤ places n → a + places n ≤ length l → rest ≡ tenths (places n - left) n
      → x ≡ a + (left - 1) → v ≡ 48 + rest % 10 → Span (digit_from n a) (a + left) (a + places n) old l
      → Span (digit_from n a) (a + (left - 1)) (a + places n) old (set l x v)
  decimal_turn left {rest} {x} {v} {old} l some few room er ex ev s =
      subst (λ (z : ℕ). Span (digit_from n a) (a + (left - 1)) (a + places n) old (set l z v)) (sym ex)
      (span_back (digit_from n a) (a + (left - 1)) (a + places n) l v (omega arith) (omega arith)
      (subst (λ (z : ℕ). Span (digit_from n a) z (a + places n) old l) (let q : a + left ≡ a + (left - 1) + 1 = omega arith in q) s)
      (ev ∙ ap (λ (r : ℕ). 48 + r % 10) (er ∙ ap (λ (k : ℕ). tenths k n) (let q : places n - left ≡ places n - 1 - (a + (left - 1) - a) = omega arith in q))))

  pub tenth_turn : (left : ℕ) {rest : ℕ} → 0 < left → left ≤ places n → rest ≡ tenths (places n - left) n → rest / 10 ≡ tenths (places n - (left - 1)) n
  tenth_turn left some few e =
      next_tenth n (places n - left) e ∙ ap (λ (k : ℕ). tenths k n) (let q : places n - left + 1 ≡ places n - (left - 1) = omega arith in q)

  pub decimal_put : {old new : List ℕ} → Span (digit_from n a) a (a + places n) old new → Put a (decimal n) old new
  decimal_put s =
      span_cong (digit_from n a) (λ x. at (decimal n) (x - a)) a (a + length (decimal n)) (λ x h k. sym (char x h k))
      (span_to (a + places n) (a + length (decimal n)) (ap (λ (m : ℕ). a + m) (sym (decimal-length n))) s)
    where
      char : (x : ℕ) → a ≤ x → x < a + length (decimal n) → at (decimal n) (x - a) ≡ digit_from n a x
      char x h k = digit_here n (x - a) (let e = decimal-length n in omega (arith, e))
