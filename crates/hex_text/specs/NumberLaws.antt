-- Digits and numbers as the code's loops read them: what each turn adds, and that no number of 16 digits is too large.
use Rattle.std.specs.Prelude.{◌≡◌, refl, true, List, ℕ, zero, suc, max, ◌+◌, ◌*◌, ◌^◌, ◌%◌, ◌≤◌, ◌<◌, ltb}
use Rattle.std.proofs.Common.{ap, ap₂, ◌∙◌, arith}
use Rattle.std.proofs.Math.Nat.{pow-succ', pow-le-pow_right}
use Rattle.lists.specs.Pick.{both}
use Rattle.lists.specs.Search.{all}
use Rattle.lists.specs.Tabulate.{at}
use Rattle.hex_text.specs.Digit.{digits_at, number_at}
use Rattle.hex_text.specs.DigitLaws.{value_lt}
use Rattle.hex_text.specs.Runs.{digit_or16}
use Rattle.hex_text.specs.RunLaws.{digit_says, digit_low, larger_below}

pub no_digits : (text : List ℕ) (a : ℕ) → true ≡ digits_at text a 0
unfolding all
no_digits text a = refl

-- one digit more, by the largest value met
pub digit_turn : (text : List ℕ) (a i worst : ℕ) {c d : ℕ} → c ≡ digit_or16 (at text (a + i)) → d ≡ max worst c
    → ltb worst 16 ≡ digits_at text a i → ltb d 16 ≡ digits_at text a (i + 1)
unfolding all
digit_turn text a i worst {c} {d} ec ed e =
    ap (λ (x : ℕ). ltb x 16) ed ∙ larger_below worst c 16 ∙ ap₂ both (ap (λ (x : ℕ). ltb x 16) ec ∙ digit_says _) e
    ∙ ap (digits_at text a) (let q : suc i ≡ i + 1 = omega arith in q)

pub number-none : (text : List ℕ) (a : ℕ) → 0 ≡ number_at text a 0
unfolding number_at
number-none text a = refl

pub number_turn : (text : List ℕ) (a i : ℕ) {c d : ℕ} → c ≡ digit_or16 (at text (a + i)) → d ≡ number_at text a i → 16 * d + c % 16 ≡ number_at text a (i + 1)
unfolding number_at
number_turn text a i {c} {d} ec ed =
    ap₂ (λ (x y : ℕ). 16 * x + y) ed (ap (λ (x : ℕ). x % 16) ec ∙ digit_low _) ∙ ap (number_at text a) (let q : suc i ≡ i + 1 = omega arith in q)

pub number_lt : (text : List ℕ) (a n : ℕ) → number_at text a n < 16 ^ n
unfolding number_at
number_lt text a zero = omega arith
number_lt text a (suc n) =
    let below = number_lt text a n in
    let digit = value_lt (at text (a + n)) in
    let more = pow-succ' 16 n in
    omega (arith, below, digit, more)

-- below 2 to the 64
pub number_fits : (text : List ℕ) (a n : ℕ) → n ≤ 16 → number_at text a n < 18446744073709551616
number_fits text a n h =
    let below = number_lt text a n in
    let most : 16 ^ n ≤ 18446744073709551616 = pow-le-pow_right {n = 16} (omega arith) h in
    omega (arith, below, most)

-- there is room for a digit more after 15
pub number_room : (text : List ℕ) (a n : ℕ) → n < 16 → 16 * number_at text a n + 16 ≤ 18446744073709551616
number_room text a n h =
    let below = number_lt text a n in
    let few : n ≤ 15 = omega arith in
    let most : 16 ^ n ≤ 1152921504606846976 = pow-le-pow_right {n = 16} (omega arith) few in
    omega (arith, below, most)
