-- Bytes that digits tell, by pairs: what each turn of the code's loops adds, and one part after another.
use Rattle.std.specs.Prelude.{◌≡◌, refl, true, List, ℕ, ◌+◌, ◌*◌, ◌-◌, ◌/◌, ◌%◌, ◌≤◌, ◌<◌, length, set}
use Rattle.std.proofs.Common.{ap, ap₂, ◌∙◌, mod-eq_of_lt, arith}
use Rattle.lists.specs.Digits.{div_of, mod_of}
use Rattle.lists.specs.Search.{all-at, all_true}
use Rattle.lists.specs.Span.{Span, span_step, span_join, span_to}
use Rattle.lists.specs.Tabulate.{at, fill_step}
use Rattle.hex_text.specs.Digit.{is_digit, digit_value, digits_at}
use Rattle.hex_text.specs.DigitLaws.{digit_counts, digit_lt, told-lt}
use Rattle.hex_text.specs.Line.{byte_at}
use Rattle.hex_text.specs.Runs.{bytes_from}
use Rattle.hex_text.specs.Tell.{counts, pair_at, told_by}

-- a pair of digits tells its byte
pair_tells : (c d : ℕ) → is_digit c ≡ true → is_digit d ≡ true → told_by (c + d * 256) ≡ 16 * digit_value c + digit_value d
pair_tells c d hc hd =
    ap₂ (λ (x y : ℕ). (counts x * 16 + counts y) % 256) low high ∙ ap₂ (λ (x y : ℕ). (x * 16 + y) % 256) (digit_counts c hc) (digit_counts d hd)
    ∙ ap (λ (x : ℕ). x % 256) turned ∙ mod-eq_of_lt (told-lt c d)
  where
    same : c + d * 256 ≡ 256 * d + c
    same = omega arith

    low : (c + d * 256) % 256 ≡ c
    low = ap (λ (x : ℕ). x % 256) same ∙ mod_of 256 d (let b = digit_lt c hc in omega (arith, b))

    high : (c + d * 256) / 256 ≡ d
    high = ap (λ (x : ℕ). x / 256) same ∙ div_of 256 d (let b = digit_lt c hc in omega (arith, b))

    turned : digit_value c * 16 + digit_value d ≡ 16 * digit_value c + digit_value d
    turned = omega arith

module _ (text : List ℕ) (from u : ℕ) (digits : digits_at text from (2 * u) ≡ true) where
  digit : (k : ℕ) → k < 2 * u → is_digit (at text (from + k)) ≡ true
  digit k h = all-at (λ j. is_digit (at text (from + j))) (2 * u) digits k h

  -- digits are digits in each part too
  pub digits_part : (o n : ℕ) {d : ℕ} → d ≡ 2 * n → o + n ≤ u → digits_at text (from + 2 * o) d ≡ true
  digits_part o n {d} q h =
      all_true (λ j. is_digit (at text (from + 2 * o + j))) d
      (λ k b. ap (λ (x : ℕ). is_digit (at text x)) (let e : from + 2 * o + k ≡ from + (2 * o + k) = omega arith in e) ∙ digit (2 * o + k) (omega (arith, q, b, h)))

  -- the byte stored
  pub tell_turn : (o begins v : ℕ) {old : List ℕ} (l : List ℕ) → o < u → begins + o < length l → v ≡ told_by (pair_at text (from + 2 * o))
      → Span (bytes_from text from begins) begins (begins + o) old l → Span (bytes_from text from begins) begins (begins + (o + 1)) old (set l (begins + o) v)
  tell_turn o begins v l h b e s =
      span_step (bytes_from text from begins) begins (begins + o) l v (omega arith) b (omega arith) s
      (e ∙ pair_tells (at text (from + 2 * o)) (at text (from + 2 * o + 1)) (digit (2 * o) (omega arith)) second
      ∙ ap (λ (r : ℕ). byte_at text (from + 2 * r)) (let z : o ≡ begins + o - begins = omega arith in z))
    where
      second : is_digit (at text (from + 2 * o + 1)) ≡ true
      second = ap (λ (x : ℕ). is_digit (at text x)) (let z : from + 2 * o + 1 ≡ from + (2 * o + 1) = omega arith in z) ∙ digit (2 * o + 1) (omega arith)

-- n bytes more after o bytes
pub tell_more : (text : List ℕ) (from begins o n : ℕ) {old l new : List ℕ} {e : ℕ} → e ≡ begins + (o + n)
    → Span (bytes_from text from begins) begins (begins + o) old l → Span (bytes_from text (from + 2 * o) (begins + o)) (begins + o) (begins + o + n) l new
    → Span (bytes_from text from begins) begins e old new
tell_more text from begins o n {e = e} q s t =
    span_to (begins + o + n) e (omega (arith, q))
    (span_join (bytes_from text from begins) (bytes_from text (from + 2 * o) (begins + o)) (bytes_from text from begins) begins (begins + o) (begins + o + n) (omega arith) (omega arith) s t
    (λ x h k. refl)
    (λ x h k. ap (byte_at text) (let z : from + 2 * o + 2 * (x - (begins + o)) ≡ from + 2 * (x - begins) = omega (arith, h) in z)))

-- a loop that takes pairs: what is right below j is right below j + 1 after the store
pub pairs_turn : (text l : List ℕ) (from j v : ℕ) → j < length l → v ≡ pair_at text (from + 2 * j) → ((k : ℕ) → k < j → at l k ≡ pair_at text (from + 2 * k))
    → (k : ℕ) → k < j + 1 → at (set l j v) k ≡ pair_at text (from + 2 * k)
pairs_turn text l from j v h e below = fill_step (λ k. pair_at text (from + 2 * k)) l j v 0 h e below
