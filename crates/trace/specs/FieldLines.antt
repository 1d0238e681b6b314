-- A line of fields that are written has them there, and a line that has fields is written by them; so also where each field is a number's digits.
use Rattle.std.specs.Prelude.{◌≡◌, refl, true, eqb, set}
use Rattle.std.proofs.Math.Path.{sym, ap, ap₂, subst}
use Rattle.std.proofs.Common.{◌∙◌, mod-lt, arith, length-append, length-set, take-append-drop, drop-drop}
use mathlib.Core.List.{List, [], ◌∷◌, ◌++◌, map}
use Prim.Native.Nat.{ℕ, suc, ◌+◌, ◌-◌, ◌/◌, ◌%◌, ◌^◌, ◌≤◌, ◌<◌}
use Rattle.std.proofs.Math.ListN.{length, take, drop, length-drop, drop_of_length-le, get_or-append}
use Rattle.std.proofs.Math.Seq.{drop-cons, length-take-le, get_or-take, get_or-drop, drop-append-add, ext_get_or}
use Rattle.std.proofs.lemmas.List.{get_or_at}
use borrow.Author.Tests.{eq-eqb, eqb-true}
use Rattle.lists.specs.Pick.{both_true, both_hold, below_or_not, equal_or_not, clash}
use Rattle.lists.specs.Part.{within}
use Rattle.lists.specs.Search.{all-at, all_true}
use Rattle.lists.specs.Put.{Put, put_none, put_one, put_join}
use Rattle.lists.specs.Tabulate.{at}
use Rattle.hex_text.specs.Hex.{digit_at, digits_of}
use Rattle.hex_text.specs.Digit.{is_digit, digits_at, number_at}
use Rattle.hex_text.specs.DigitLaws.{digit_is}
use Rattle.hex_text.specs.DigitsLaws.{number_digits, digits_number, length_digits, digits_at_lem}
use Rattle.trace.specs.Fields.{separator, fields_at, numbers_at, field_line, number_fields}
use Rattle.trace.specs.FieldLaws.{after, last_is, end_of, fields_length}

-- ---- fields that stand in a line

-- what holds of each field, by its place, its width and its text
abbrev pub Each : (ℕ → ℕ → List ℕ → Type 0) → ℕ → List ℕ → List (List ℕ) → Type 0
Each P a [] [] = Unit {0}
Each P a [] (f ∷ fs) = ⊥
Each P a (w ∷ ws) [] = ⊥
Each P a (w ∷ ws) (f ∷ fs) = P a w f × Each P (a + w + 1) ws fs

-- w digits
abbrev pub Digital : ℕ → ℕ → List ℕ → Type 0
Digital a w f = (length f ≡ w) × ((j : ℕ) → j < w → is_digit (at f j) ≡ true)

-- they stand in the line at place a
abbrev pub Stands : List ℕ → ℕ → ℕ → List ℕ → Type 0
Stands l a w f = (length f ≡ w) × ((j : ℕ) → j < w → at l (a + j) ≡ at f j)

same_after : (P : ℕ → ℕ → List ℕ → Type 0) (a : ℕ) (ws : List ℕ) (fs : List (List ℕ)) → Each P a ws fs → separator (map length fs) ≡ separator ws
same_after P a [] [] h = refl
same_after P a [] (f ∷ fs) h = absurd h
same_after P a (w ∷ ws) [] h = absurd h
same_after P a (w ∷ ws) (f ∷ fs) h = refl

pub ends-after : (a : ℕ) (ws : List ℕ) → a ≤ end_of a ws
ends-after a [] = omega arith
ends-after a (w ∷ ws) = let h = ends-after (a + w + 1) ws in omega arith

module _ (l : List ℕ) where
  -- a line that ends with these fields has them there
  pub line_fields : (a : ℕ) (ws : List ℕ) (fs : List (List ℕ)) → Each Digital a ws fs → a ≤ length l → drop a l ≡ field_line fs
      → (fields_at l a ws ≡ true) × Each (Stands l) a ws fs
  unfolding fields_at field_line
  line_fields a [] [] h b e = (eq-eqb a (length l) (let n = ap length e in omega (arith, length-drop a l, n)), tt)
  line_fields a [] (f ∷ fs) h b e = absurd h
  line_fields a (w ∷ ws) [] h b e = absurd h
  line_fields a (w ∷ ws) (f ∷ fs) h b e =
      let rest = line_fields (a + w + 1) ws fs h.1 room later in (
        both_hold (digits_at l a w) _ (all_true (λ j. is_digit (at l (a + j))) w (λ j k. ap is_digit (here j k) ∙ h.0.1 j k))
            (both_hold (eqb (at l (a + w)) (separator ws)) _ (eq-eqb _ _ follows) rest.0),
        ((h.0.0, here), rest.1),
      )
    where
      c : ℕ
      c = separator (map length fs)

      wide : length f ≡ w
      wide = h.0.0

      here : (j : ℕ) → j < w → at l (a + j) ≡ at f j
      here j k = sym (get_or-drop a l j 0) ∙ ap (λ (m : List ℕ). at m j) e ∙ get_or-append f (c ∷ field_line fs) 0 j (omega (arith, wide))

      follows : at l (a + w) ≡ separator ws
      follows = sym (get_or-drop a l w 0) ∙ ap (λ (m : List ℕ). at m w) e ∙ get_or_at f c (field_line fs) 0 w wide ∙ same_after Digital (a + w + 1) ws fs h.1

      past : a + w + 1 ≡ a + (length f + 1)
      past = omega (arith, wide)

      later : drop (a + w + 1) l ≡ field_line fs
      later =
          ap (λ (p : ℕ). drop p l) past ∙ sym (drop-drop (length f + 1) a l) ∙ ap (drop (length f + 1)) e ∙ drop-append-add f (c ∷ field_line fs) 1

      room : a + w + 1 ≤ length l
      room = let n = ap length e ∙ length-append f (c ∷ field_line fs) in omega (arith, length-drop a l, n, wide)

  -- the first of the fields, what follows it, and the rest
  pub split_field : (a w : ℕ) (ws : List ℕ) → fields_at l a (w ∷ ws) ≡ true
      → (digits_at l a w ≡ true) × (at l (a + w) ≡ separator ws) × (fields_at l (a + w + 1) ws ≡ true)
  unfolding fields_at
  split_field a w ws t =
      let b = both_true (digits_at l a w) _ t in
      let c = both_true (eqb (at l (a + w)) (separator ws)) _ b.1 in
      (b.0, eqb-true _ _ c.0, c.1)

  -- and a line that has them there ends with them
  pub fields_line : (a : ℕ) (ws : List ℕ) (fs : List (List ℕ)) → fields_at l a ws ≡ true → Each (Stands l) a ws fs → drop a l ≡ field_line fs
  unfolding fields_at field_line
  fields_line a [] [] t h = let e = eqb-true a (length l) t in drop_of_length-le l {i = a} (omega (arith, e))
  fields_line a [] (f ∷ fs) t h = absurd h
  fields_line a (w ∷ ws) [] t h = absurd h
  fields_line a (w ∷ ws) (f ∷ fs) t h =
      let parts = split_field a w ws t in
      let room : a + w < length l = let n = fields_length l (a + w + 1) ws parts.2 in omega (arith, n, ends-after (a + w + 1) ws) in
      sym (take-append-drop w (drop a l)) ∙ ap₂ ◌++◌ (here room) (drop-drop w a l ∙ drop-cons l (a + w) 0 room
      ∙ ap₂ ◌∷◌ (parts.1 ∙ sym (same_after (Stands l) (a + w + 1) ws fs h.1)) (ap (λ (p : ℕ). drop p l) next ∙ fields_line (a + w + 1) ws fs parts.2 h.1))
    where
      here : a + w < length l → take w (drop a l) ≡ f
      here room =
          let wide = length-take-le w (drop a l) (omega (arith, length-drop a l)) in
          ext_get_or 0 (take w (drop a l)) f (wide ∙ sym h.0.0)
          (λ j b. let k : j < w = omega (arith, wide) in get_or-take w (drop a l) j 0 k ∙ get_or-drop a l j 0 ∙ h.0.1 j k)

      next : suc (a + w) ≡ a + w + 1
      next = omega arith

pub digital_digits : (a n x : ℕ) → Digital a n (digits_of n x)
digital_digits a n x =
    (length_digits n x, λ j h. ap is_digit (digits_at_lem n x j h) ∙ digit_is (x / 16 ^ (n - 1 - j) % 16) (mod-lt (x / 16 ^ (n - 1 - j)) (omega arith)))

-- a number's digits that stand in a line tell it there
pub stands_number : (l : List ℕ) (a n x : ℕ) → x < 16 ^ n → Stands l a n (digits_of n x) → number_at l a n ≡ x
stands_number l a n x h s = number_digits l a n x h (λ j k. s.1 j k ∙ digits_at_lem n x j k)

-- the number that digits tell has these digits
pub number_stands : (l : List ℕ) (a n x : ℕ) → digits_at l a n ≡ true → number_at l a n ≡ x → Stands l a n (digits_of n x)
number_stands l a n x t e =
    (length_digits n x, λ j h. sym (digits_at_lem n x j h ∙ ap (λ (y : ℕ). digit_at y (n - 1 - j)) (sym e) ∙ digits_number l a n t j h))

-- ---- a line of numbers

-- each number has a field, and fits it
abbrev pub Fit : List ℕ → List ℕ → Type 0
Fit [] [] = Unit {0}
Fit [] (x ∷ xs) = ⊥
Fit (w ∷ ws) [] = ⊥
Fit (w ∷ ws) (x ∷ xs) = (x < 16 ^ w) × Fit ws xs

numbers_digital : (a : ℕ) (ws xs : List ℕ) → Fit ws xs → Each Digital a ws (number_fields ws xs)
numbers_digital a [] [] h = tt
numbers_digital a [] (x ∷ xs) h = absurd h
numbers_digital a (w ∷ ws) [] h = absurd h
numbers_digital a (w ∷ ws) (x ∷ xs) h = (digital_digits a w x, numbers_digital (a + w + 1) ws xs h.1)

stand_numbers : (l : List ℕ) (a : ℕ) (ws xs : List ℕ) → Fit ws xs → Each (Stands l) a ws (number_fields ws xs) → numbers_at l a ws ≡ xs
stand_numbers l a [] [] h s = refl
stand_numbers l a [] (x ∷ xs) h s = absurd h
stand_numbers l a (w ∷ ws) [] h s = absurd h
stand_numbers l a (w ∷ ws) (x ∷ xs) h s = ap₂ ◌∷◌ (stands_number l a w x h.0 s.0) (stand_numbers l (a + w + 1) ws xs h.1 s.1)

numbers_stand : (l : List ℕ) (a : ℕ) (ws : List ℕ) → fields_at l a ws ≡ true → Each (Stands l) a ws (number_fields ws (numbers_at l a ws))
numbers_stand l a [] t = tt
numbers_stand l a (w ∷ ws) t =
    let s = split_field l a w ws t in
    (number_stands l a w (number_at l a w) s.0 refl, numbers_stand l (a + w + 1) ws s.2)

-- numbers that are written have the fields, and are told by them
pub numbers_told : (ws xs : List ℕ) → Fit ws xs
    → (fields_at (field_line (number_fields ws xs)) 0 ws ≡ true) × (numbers_at (field_line (number_fields ws xs)) 0 ws ≡ xs)
numbers_told ws xs h =
    let l = field_line (number_fields ws xs) in
    let s = line_fields l 0 ws (number_fields ws xs) (numbers_digital 0 ws xs h) (omega arith) refl in
    (s.0, stand_numbers l 0 ws xs h s.1)

-- and a line that has the fields is that of the numbers that it tells
pub numbers_written : (l : List ℕ) (ws : List ℕ) → fields_at l 0 ws ≡ true → l ≡ field_line (number_fields ws (numbers_at l 0 ws))
numbers_written l ws t = fields_line l 0 ws (number_fields ws (numbers_at l 0 ws)) t (numbers_stand l 0 ws t)

-- how long the line is
pub numbers_long : (a : ℕ) (ws xs : List ℕ) → length ws ≤ length xs → a + length (field_line (number_fields ws xs)) ≡ end_of a ws
unfolding field_line
numbers_long a [] xs h = omega arith
numbers_long a (w ∷ ws) [] h = absurd (omega (arith, h))
numbers_long a (w ∷ ws) (x ∷ xs) h =
    let rest = separator (map length (number_fields ws xs)) ∷ field_line (number_fields ws xs) in
    let long : a + length (digits_of w x ++ rest) ≡ a + w + 1 + length (field_line (number_fields ws xs)) =
    omega (arith, length-append (digits_of w x) rest, length_digits w x) in
    long ∙ numbers_long (a + w + 1) ws xs (omega (arith, h))

-- a digit is no newline
digit_newline : (c : ℕ) → is_digit c ≡ true → c ≡ 10 → ⊥
unfolding is_digit within
digit_newline c d q = clash (is_digit c) d (ap is_digit q)

-- no place of a line of fields but the last holds a newline
pub fields_newline_last : (l : List ℕ) (a : ℕ) (ws : List ℕ) → fields_at l a ws ≡ true → (i : ℕ) → a ≤ i → i + 1 < length l → at l i ≡ 10 → ⊥
unfolding fields_at
fields_newline_last l a [] t i b k e = let n = eqb-true a (length l) t in omega (arith, n, b, k)
fields_newline_last l a (w ∷ ws) t i b k e =
    let s = split_field l a w ws t in
    below_or_not i (a + w)
    (λ (h : i < a + w).
    let j : a + (i - a) ≡ i = omega (arith, b) in
    let digit = all-at (λ n. is_digit (at l (a + n))) w s.0 (i - a) (omega (arith, b, h)) in
    digit_newline (at l i) (ap (λ (x : ℕ). is_digit (at l x)) (sym j) ∙ digit) e)
    (λ (h : a + w ≤ i).
    equal_or_not i (a + w) (λ (q : i ≡ a + w). between ws s.2 (sym s.1 ∙ ap (at l) (sym q) ∙ e) (omega (arith, q, k)))
    (λ (q : i ≡ a + w → ⊥). fields_newline_last l (a + w + 1) ws s.2 i (omega arith) k e))
  where
    -- a field that others follow ends with a space
    between : (ws : List ℕ) → fields_at l (a + w + 1) ws ≡ true → separator ws ≡ 10 → a + w + 1 < length l → ⊥
    between [] f q h = let n = eqb-true (a + w + 1) (length l) f in omega (arith, n, h)
    between (v ∷ vs) f q h = omega (arith, q)

-- ---- written field after field, as the code's loop does

-- what follows a field, where each width has its number
same_separator : (ws xs : List ℕ) → length ws ≤ length xs → separator (map length (number_fields ws xs)) ≡ separator ws
same_separator [] xs h = refl
same_separator (w ∷ ws) [] h = absurd (omega (arith, h))
same_separator (w ∷ ws) (x ∷ xs) h = refl

-- the line from field i on, of the first n of a list of widths
abbrev pub line_from_field : List ℕ → List ℕ → ℕ → ℕ → List ℕ
line_from_field widths xs n i = field_line (number_fields (drop i (take n widths)) (drop i xs))

module _ (widths xs : List ℕ) (n : ℕ) (room : n ≤ length widths) (enough : n ≤ length xs) where
  many : length (take n widths) ≡ n
  many = length-take-le n widths room

  module _ (i : ℕ) (h : i < n) where
    next : suc i ≡ i + 1
    next = omega arith

    widths_here : drop i (take n widths) ≡ at widths i ∷ drop (i + 1) (take n widths)
    widths_here = drop-cons (take n widths) i 0 (omega (arith, many, h)) ∙ (λ k. get_or-take n widths i 0 h k ∷ drop (next k) (take n widths))

    numbers_here : drop i xs ≡ at xs i ∷ drop (i + 1) xs
    numbers_here = drop-cons xs i 0 (omega (arith, enough, h)) ∙ (λ k. at xs i ∷ drop (next k) xs)

    -- field i, what follows it, and the fields after it
    line-here : line_from_field widths xs n i ≡ digits_of (at widths i) (at xs i) ++ after (eqb (i + 1) n) ∷ line_from_field widths xs n (i + 1)
    unfolding field_line
    line-here =
        ap₂ (λ (ws ys : List ℕ). field_line (number_fields ws ys)) widths_here numbers_here
        ∙ ap (λ (c : ℕ). digits_of (at widths i) (at xs i) ++ c ∷ line_from_field widths xs n (i + 1))
        (same_separator (drop (i + 1) (take n widths)) (drop (i + 1) xs) (omega (arith, length-drop (i + 1) (take n widths), length-drop (i + 1) xs, many, enough))
        ∙ last_is xs widths n room i h)

    pub field_ends : (a : ℕ) → end_of a (drop i (take n widths)) ≡ end_of (a + at widths i + 1) (drop (i + 1) (take n widths))
    field_ends a = ap (end_of a) widths_here

    -- the field is put, and what follows it; with the rest of the line put after them all is put
    pub field_put : (a c : ℕ) {l m z : List ℕ} → c ≡ after (eqb (i + 1) n) → a + at widths i < length m → Put a (digits_of (at widths i) (at xs i)) l m
        → Put (a + at widths i + 1) (line_from_field widths xs n (i + 1)) (set m (a + at widths i) c) z → Put a (line_from_field widths xs n i) l z
    field_put a c {l} {m} {z} e b p q =
        subst (λ (t : List ℕ). Put a t l z) (sym (line-here ∙ ap (λ (d : ℕ). digits_of (at widths i) (at xs i) ++ d ∷ line_from_field widths xs n (i + 1)) (sym e)))
        (put_join a (a + at widths i) (digits_of (at widths i) (at xs i)) (c ∷ line_from_field widths xs n (i + 1))
        (ap (λ (w : ℕ). a + w) (sym (length_digits (at widths i) (at xs i)))) p
        (put_join (a + at widths i) (a + at widths i + 1) (c ∷ []) (line_from_field widths xs n (i + 1)) refl (put_one (a + at widths i) c m b) q))

  no_widths : drop n (take n widths) ≡ []
  no_widths = drop_of_length-le (take n widths) {i = n} (omega (arith, many))

  pub fields_end : (a : ℕ) → end_of a (drop n (take n widths)) ≡ a
  fields_end a = ap (end_of a) no_widths

  pub none_left : (a : ℕ) (l : List ℕ) → Put a (line_from_field widths xs n n) l l
  unfolding field_line
  none_left a l = subst (λ (ws : List ℕ). Put a (field_line (number_fields ws (drop n xs))) l l) (sym no_widths) (put_none a l)

  -- before field i at place `to`: what puts the rest of the line there has put all of it
  pub record Writing (a : ℕ) (old : List ℕ) (to i : ℕ) (text : List ℕ) : Type 0 where
    pub fields : i ≤ n
    pub ends : end_of to (drop i (take n widths)) ≡ end_of a (take n widths)
    pub long : length text ≡ length old
    pub goal : (z : List ℕ) → Put to (line_from_field widths xs n i) text z → Put a (field_line (number_fields (take n widths) xs)) old z

  pub writing_begin : (a : ℕ) (old : List ℕ) → Writing a old a 0 old
  writing_begin a old = record { fields = omega arith; ends = refl; long = refl; goal = λ z p. p }

  module _ {a : ℕ} {old : List ℕ} {to i : ℕ} {text : List ℕ} (u : Writing a old to i text) where
    -- the field fits, with what follows it
    pub writing_room : i < n → end_of a (take n widths) ≤ length old → to + at widths i < length text
    writing_room h r =
        let e = sym (field_ends i h to) ∙ u.ends in
        let b = ends-after (to + at widths i + 1) (drop (i + 1) (take n widths)) in
        let l = u.long in
        omega (arith, e, b, l, r)

    pub writing_turn : (h : i < n) → end_of a (take n widths) ≤ length old → (c : ℕ) {m : List ℕ} → c ≡ after (eqb (i + 1) n)
        → Put to (digits_of (at widths i) (at xs i)) text m → Writing a old (to + (at widths i + 1)) (i + 1) (set m (to + at widths i) c)
    writing_turn h r c {m} e p =
        let l = p.len in
        let b = writing_room h r in
        let q : to + (at widths i + 1) ≡ to + at widths i + 1 = omega arith in
        subst (λ (t : ℕ). Writing a old t (i + 1) (set m (to + at widths i) c)) (sym q)
        (record {
          fields = omega (arith, h);
          ends = sym (field_ends i h to) ∙ u.ends;
          long = length-set m (to + at widths i) c ∙ l ∙ u.long;
          goal = λ z s. u.goal z (field_put i h to c e (omega (arith, b, l)) p s);
        })

    pub writing_done : n ≤ i → (to ≡ end_of a (take n widths)) × Put a (field_line (number_fields (take n widths) xs)) old text
    writing_done h =
        let k = u.fields in
        let e : i ≡ n = omega (arith, h, k) in (
          sym (ap (λ (j : ℕ). end_of to (drop j (take n widths))) e ∙ fields_end to) ∙ u.ends,
          u.goal text (subst (λ (j : ℕ). Put to (line_from_field widths xs n j) text text) (sym e) (none_left to text)),
        )
