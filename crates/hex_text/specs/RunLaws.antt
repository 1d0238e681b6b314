-- The runs of a line: what each turn of the code's loops adds, and that the runs make the line.
use Rattle.std.specs.Prelude.{◌≡◌, refl, Bool, true, false, List, ltb, length, set, take, drop}
use Rattle.std.proofs.Math.Path.{sym, ap}
use Rattle.std.proofs.Common.{get_or-take, get_or-drop, length-take, ap₂, ◌∙◌, subst, mod-eq_of_lt, div-one}
use Rattle.std.proofs.Math.Logic.{⊎_elim}
use Prim.Native.Nat.{ℕ, suc, max, ◌+◌, ◌*◌, ◌-◌, ◌/◌, ◌%◌, ◌≤◌, ◌<◌}
use Rattle.std.proofs.Math.Nat.{max-eq_left, max-eq_right}
use native.Mathlib.Omega.{arith}
use Rattle.std.proofs.Math.Dec.{eqb}
use borrow.Author.Tests.{eq-eqb, eqb-true, lt-ltb, le-ltb}
use Rattle.std.specs.Cmp.Lexicographic.{pointwise, same_text, other_text}
use Rattle.lists.specs.Pick.{pick, pick_true, pick-false, both, both_hold, below_or_not, either_way, not-both_ways}
use Rattle.lists.specs.Part.{within}
use Rattle.lists.specs.Search.{all, all-at, all_true}
use Rattle.lists.specs.Span.{Span, span_step, span_join}
use Rattle.lists.specs.Tabulate.{at, tabulate, get_d_tabulate, tabulate_ext, part_tabulated}
use Rattle.hex_text.specs.Hex.{hex_digit, digit_at}
use Rattle.hex_text.specs.HexChars.{char_byte, char_end}
use Rattle.hex_text.specs.CharLaws.{head_same, which_pair, which_half}
use Rattle.hex_text.specs.Digit.{is_digit, digit_value}
use Rattle.hex_text.specs.DigitLaws.{none_value, value_lt}
use Rattle.hex_text.specs.Line.{byte_at}
use Rattle.hex_text.specs.Runs.{letter_or16, decimal_or, digit_or16, head_of, head_from, unit_from, line_from, head_right, digits_right, bytes_from}

-- ---- a digit in one number

pub by_two_runs : (c : ℕ) → decimal_or c (letter_or16 c) ≡ digit_or16 c
unfolding is_digit digit_value
by_two_runs c = by (within 48 10 c) (within 97 6 c)
  where
    by : (a b : Bool) → pick a (c - 48) (pick b (c - 87) 16) ≡ pick (pick a true b) (pick a (c - 48) (pick b (c - 87) 0)) 16
    by true b = refl
    by false true = refl
    by false false = refl

-- below 16 just where it is a digit
pub digit_says : (c : ℕ) → ltb (digit_or16 c) 16 ≡ is_digit c
digit_says c =
    ⊎_elim
    (λ (t : is_digit c ≡ true).
    ap (λ (x : ℕ). ltb x 16) (pick_true (is_digit c) (digit_value c) 16 t) ∙ lt-ltb (digit_value c) 16 (value_lt c) ∙ sym t)
    (λ (t : is_digit c ≡ false). ap (λ (x : ℕ). ltb x 16) (pick-false (is_digit c) (digit_value c) 16 t) ∙ sym t)
    (either_way (is_digit c))

-- and below 16 it is the value, also of what is none
pub digit_low : (c : ℕ) → digit_or16 c % 16 ≡ digit_value c
digit_low c =
    ⊎_elim
    (λ (t : is_digit c ≡ true).
    ap (λ (x : ℕ). x % 16) (pick_true (is_digit c) (digit_value c) 16 t) ∙ mod-eq_of_lt (value_lt c))
    (λ (t : is_digit c ≡ false). ap (λ (x : ℕ). x % 16) (pick-false (is_digit c) (digit_value c) 16 t) ∙ sym (none_value c t))
    (either_way (is_digit c))

-- the larger of two is below a bound where both are
pub larger_below : (a b m : ℕ) → ltb (max a b) m ≡ both (ltb b m) (ltb a m)
larger_below a b m =
    below_or_not a b
    (λ (h : a < b).
    ap (λ (x : ℕ). ltb x m) (max-eq_right (omega arith))
    ∙ below_or_not b m (λ (k : b < m). lt-ltb b m k ∙ sym (both_hold (ltb b m) (ltb a m) (lt-ltb b m k) (lt-ltb a m (omega arith))))
    (λ (k : m ≤ b). le-ltb b m k ∙ sym (pick-false (ltb b m) (ltb a m) false (le-ltb b m k))))
    (λ (h : b ≤ a).
    ap (λ (x : ℕ). ltb x m) (max-eq_left h)
    ∙ below_or_not b m (λ (k : b < m). sym (pick_true (ltb b m) (ltb a m) false (lt-ltb b m k)))
    (λ (k : m ≤ b). le-ltb a m (omega arith) ∙ sym (pick-false (ltb b m) (ltb a m) false (le-ltb b m k))))

-- a character of the part of a text that begins at `from`
module _ (text : List ℕ) (from n i : ℕ) (h : i < length (take n (drop from text))) where
  pub part_lt : i < n
  part_lt = omega (arith, h, length-take n (drop from text))

  pub part_at : at (take n (drop from text)) i ≡ at text (from + i)
  part_at = get_or-take n (drop from text) i 0 part_lt ∙ get_or-drop from text i 0

-- ---- the ten characters before the bytes

module _ (text : List ℕ) (a target frame : ℕ) where
  -- the test of the ten one by one

  pub heads_yes : ((k : ℕ) → k < 10 → at text (a + k) ≡ head_of target frame k) → true ≡ head_right text a target frame
  heads_yes h = sym (all_true (λ j. eqb (at text (a + j)) (head_of target frame j)) 10 (λ k b. eq-eqb _ _ (h k b)))

  pub heads_no : (k : ℕ) → k < 10 → (at text (a + k) ≡ head_of target frame k → ⊥) → false ≡ head_right text a target frame
  heads_no k h f =
      sym (not-both_ways (head_right text a target frame)
      (λ (t : head_right text a target frame ≡ true). f (eqb-true _ _ (all-at (λ j. eqb (at text (a + j)) (head_of target frame j)) 10 t k h))))

  head_stands : take 10 (drop a text) ≡ tabulate 10 (head_of target frame) → true ≡ head_right text a target frame
  head_stands e =
      sym (all_true (λ j. eqb (at text (a + j)) (head_of target frame j)) 10
      (λ k b. eq-eqb _ _ (sym (get_or-take 10 (drop a text) k 0 b ∙ get_or-drop a text k 0) ∙ ap (λ (l : List ℕ). at l k) e ∙ get_d_tabulate 10 (head_of target frame) k 0 b)))

  head_differs : (take 10 (drop a text) ≡ tabulate 10 (head_of target frame) → ⊥) → a + 10 ≤ length text → false ≡ head_right text a target frame
  head_differs f room =
      sym (not-both_ways (head_right text a target frame)
      (λ (t : head_right text a target frame ≡ true).
      f (part_tabulated 10 a text room
      ∙ tabulate_ext 0 10 _ _ (λ k b. eqb-true _ _ (all-at (λ j. eqb (at text (a + j)) (head_of target frame j)) 10 t k b)))))

  -- the test of the ten characters at once
  pub head_told : (right : Bool) {n : ℕ} {head : List ℕ} → n ≡ 10 → head ≡ tabulate 10 (head_of target frame)
      → right ≡ pointwise eqb (take n (drop a text)) head → a + 10 ≤ length text → right ≡ head_right text a target frame
  head_told true q h e room = head_stands (sym (ap (λ (m : ℕ). take m (drop a text)) q) ∙ same_text _ _ e ∙ h)
  head_told false q h e room = head_differs (λ (r : take 10 (drop a text) ≡ tabulate 10 (head_of target frame)). other_text _ _ e (ap (λ (m : ℕ). take m (drop a text)) q ∙ r ∙ sym h)) room

-- one of the ten characters written
pub head_turn : (a target frame j v : ℕ) {old : List ℕ} (l : List ℕ) → a + j < length l → Span (head_from a target frame) a (a + j) old l → v ≡ head_of target frame j
    → Span (head_from a target frame) a (a + (j + 1)) old (set l (a + j) v)
head_turn a target frame j v l b s e =
    span_step (head_from a target frame) a (a + j) l v (omega arith) b (omega arith) s
    (e ∙ ap (head_of target frame) (let q : j ≡ a + j - a = omega arith in q))

-- ---- a unit written: two digits a turn

module _ (image : List ℕ) (begins from o : ℕ) where
  unit_char : (r : ℕ) → r < 2 → unit_from image begins from (from + (2 * o + r)) ≡ digit_at (at image (begins + o)) (1 - r)
  unit_char r h = (λ i. digit_at (at image (begins + which_pair from o r h i)) (1 - which_half from o r h i))

  high_here : hex_digit (at image (begins + o) / 16 % 16) ≡ unit_from image begins from (from + 2 * o)
  high_here = sym (unit_char 0 (omega arith)) ∙ ap (unit_from image begins from) (let q : from + (2 * o + 0) ≡ from + 2 * o = omega arith in q)

  low-here : hex_digit (at image (begins + o) % 16) ≡ unit_from image begins from (from + 2 * o + 1)
  low-here =
      ap (λ (x : ℕ). hex_digit (x % 16)) (sym (div-one (at image (begins + o)))) ∙ sym (unit_char 1 (omega arith))
      ∙ ap (unit_from image begins from) (let q : from + (2 * o + 1) ≡ from + 2 * o + 1 = omega arith in q)

  pub unit_turn : {a v w : ℕ} {old : List ℕ} (l : List ℕ) → a ≡ from + 2 * o → a + 1 < length l
      → v ≡ hex_digit (at image (begins + o) / 16 % 16) → w ≡ hex_digit (at image (begins + o) % 16)
      → Span (unit_from image begins from) from a old l → Span (unit_from image begins from) from (a + 2) old (set (set l a v) (a + 1) w)
  unit_turn {a} {v} {w} l q b ev ew s =
      let first = span_step (unit_from image begins from) from a {e = a + 1} l v (omega arith) (omega arith) refl s (ev ∙ high_here ∙ ap (unit_from image begins from) (sym q)) in
      span_step (unit_from image begins from) from (a + 1) (set l a v) w (omega arith) (let z = first.len in let z' = s.len in omega (arith, z, z')) (omega arith) first
      (ew ∙ low-here ∙ ap (λ (x : ℕ). unit_from image begins from (x + 1)) (sym q))

-- ---- the runs of a line written make the line

pub line-written : (image : List ℕ) (begins u target frame a v : ℕ) {l m n : List ℕ}
    → a + (11 + 2 * u) ≤ length l → Span (head_from a target frame) a (a + 10) l m → Span (unit_from image begins (a + 10)) (a + 10) (a + 10 + 2 * u) m n → v ≡ 10
    → Span (line_from image begins u target frame a) a (a + (11 + 2 * u)) l (set n (a + 10 + 2 * u) v)
line-written image begins u target frame a v {l} {m} {n} room s t e =
    span_step (line_from image begins u target frame a) a (a + 10 + 2 * u) n v (omega arith)
    (let p = s.len in let q = t.len in omega (arith, p, q)) (omega arith)
    (span_join (head_from a target frame) (unit_from image begins (a + 10)) (line_from image begins u target frame a) a (a + 10) (a + 10 + 2 * u) (omega arith) (omega arith) s t head bytes)
    (e ∙ sym (char_end target frame u byte (a + 10 + 2 * u - a) (omega arith)))
  where
    byte : ℕ → ℕ
    byte o = at image (begins + o)

    head : (x : ℕ) → a ≤ x → x < a + 10 → head_from a target frame x ≡ line_from image begins u target frame a x
    head x h k = head_same target frame 0 u (λ o. 0) byte (x - a) (omega arith)

    bytes : (x : ℕ) → a + 10 ≤ x → x < a + 10 + 2 * u → unit_from image begins (a + 10) x ≡ line_from image begins u target frame a x
    bytes x h k =
        let q : x - (a + 10) ≡ x - a - 10 = omega arith in
        ap (λ (r : ℕ). digit_at (at image (begins + r / 2)) (1 - r % 2)) q ∙ sym (char_byte target frame u byte (x - a) (omega arith) (omega arith))

-- ---- a unit read: two characters a turn

pub digits_none : (text : List ℕ) (from : ℕ) → true ≡ digits_right text from 0
unfolding all
digits_none text from = refl

module _ (text : List ℕ) (from o : ℕ) where
  pub both_more : digits_right text from (o + 1)
      ≡ both (is_digit (at text (from + 2 * o + 1))) (both (is_digit (at text (from + 2 * o))) (digits_right text from o))
  unfolding all
  both_more =
      ap (all (λ k. is_digit (at text (from + k)))) (let q : 2 * (o + 1) ≡ suc (suc (2 * o)) = omega arith in q)
      ∙ ap (λ (x : ℕ). both (is_digit (at text x)) (both (is_digit (at text (from + 2 * o))) (digits_right text from o)))
      (let q : from + suc (2 * o) ≡ from + 2 * o + 1 = omega arith in q)

  -- the largest value met, and what it says
  pub digits_turn : (worst : ℕ) {a b c d : ℕ} → a ≡ digit_or16 (at text (from + 2 * o)) → b ≡ digit_or16 (at text (from + 2 * o + 1))
      → c ≡ max worst a → d ≡ max c b → ltb worst 16 ≡ digits_right text from o → ltb d 16 ≡ digits_right text from (o + 1)
  digits_turn worst {a} {b} {c} {d} ea eb ec ed e =
      ap (λ (x : ℕ). ltb x 16) ed ∙ larger_below c b 16
      ∙ ap₂ both (ap (λ (x : ℕ). ltb x 16) eb ∙ digit_says _)
      (ap (λ (x : ℕ). ltb x 16) ec ∙ larger_below worst a 16 ∙ ap₂ both (ap (λ (x : ℕ). ltb x 16) ea ∙ digit_says _) e)
      ∙ sym both_more

  -- the byte stored
  pub bytes_turn : (begins : ℕ) {a b x v : ℕ} {old : List ℕ} (l : List ℕ) → a ≡ digit_or16 (at text (from + 2 * o)) → b ≡ digit_or16 (at text (from + 2 * o + 1))
      → x ≡ begins + o → x < length l → v ≡ a % 16 * 16 + b % 16
      → Span (bytes_from text from begins) begins (begins + o) old l → Span (bytes_from text from begins) begins (begins + (o + 1)) old (set l x v)
  bytes_turn begins {a} {b} {x} {v} {old} l ea eb q h ev s =
      span_step (bytes_from text from begins) begins x l v (omega arith) h (omega arith) (subst (λ (e : ℕ). Span (bytes_from text from begins) begins e old l) (sym q) s)
      (value ∙ ap (λ (r : ℕ). byte_at text (from + 2 * r)) (let z : o ≡ x - begins = omega arith in z))
    where
      value : v ≡ byte_at text (from + 2 * o)
      value =
          let p : a % 16 ≡ digit_value (at text (from + 2 * o)) = ap (λ (z : ℕ). z % 16) ea ∙ digit_low _ in
          let r : b % 16 ≡ digit_value (at text (from + 2 * o + 1)) = ap (λ (z : ℕ). z % 16) eb ∙ digit_low _ in
          omega (arith, ev, p, r)

-- ---- the runs of a line read make the line
