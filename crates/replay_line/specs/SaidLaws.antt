-- How the code's parts make an answer: a number, what else an accepted call answers, a newline.
use Rattle.std.specs.Prelude.{◌≡◌, refl, List, [], ◌∷◌, ◌++◌, ℕ, zero, suc, ◌+◌, ◌*◌, ◌-◌, ◌/◌, ◌%◌, ◌≤◌, ◌<◌, set, take, drop}
use Rattle.std.proofs.Common.{sym, ap, ◌∙◌, subst, arith, length-append, length-set, length-drop, length-take-le, get_or-take, get_or-drop, get_or-append-add}
use Rattle.std.proofs.Math.ListN.{length, get_or-append}
use Rattle.lists.specs.Digits.{div_below}
use Rattle.lists.specs.Refusal.{grant_no, grant-either}
use Rattle.lists.specs.Search.{any, lowest}
use Rattle.lists.specs.Span.{Span, span_cong, span_to}
use Rattle.lists.specs.Put.{Put, put_one, put_join, put_first}
use Rattle.lists.specs.Tabulate.{at, tabulate, zeros, length-tabulate, get_d_tabulate}
use Rattle.numbers.specs.declared.Layout.{Layout}
use Rattle.homes.specs.declared.Record.{Record}
use Rattle.pool.specs.Refusals.{range_refusal}
use Rattle.pool.specs.Reading.{read_out}
use Rattle.pool.specs.Calls.{Reads}
use Rattle.hex_text.specs.Hex.{digit_at, hex_of}
use Rattle.hex_text.specs.Runs.{unit_from}
use Rattle.answers.specs.Decimal.{tenths, places, decimal, printed}
use Rattle.answers.specs.DecimalLaws.{decimal-length, places-few}
use Rattle.replay_line.specs.Said.{Said}

-- ---- what is printed

pub printed_plain : (n : ℕ) → printed n [] ≡ decimal n ++ 10 ∷ []
unfolding printed
printed_plain zero = refl
printed_plain (suc n) = refl

-- a refused call's number stands alone
pub printed-refused : (n : ℕ) (more : List ℕ) → (n ≡ 0 → ⊥) → printed n [] ≡ printed n more
unfolding printed
printed-refused n more f = ap (λ (l : List ℕ). decimal n ++ (l ++ 10 ∷ [])) (grant_no n [] [] f ∙ sym (grant_no n more [] f))

printed_accepted : (more : List ℕ) → printed 0 (32 ∷ more) ≡ 48 ∷ 32 ∷ (more ++ 10 ∷ [])
unfolding printed decimal places tenths lowest any tabulate
printed_accepted more = refl

-- ---- put in the buffer

said_put : (text : List ℕ) {l m : List ℕ} (n : ℕ) → length text ≤ length l → n ≡ length text → Put 0 text l m → Said text l n m
said_put text n room e p = record { long = e; laid = put_first text room p }

pub said_number : (n e : ℕ) {l m : List ℕ} → 24 ≤ length l → e ≡ 0 + length (decimal n) → Put 0 (decimal n) l m → Said (printed n []) l (e + 1) (set m e 10)
said_number n e {l} {m} room q p =
    subst (λ (text : List ℕ). Said text l (e + 1) (set m e 10)) (sym (printed_plain n))
    (said_put (decimal n ++ 10 ∷ []) (e + 1) (omega (arith, long, few, many, room)) (omega (arith, long, q))
    (put_join 0 e (decimal n) (10 ∷ []) q p (put_one e 10 m (omega (arith, q, few, many, room, p.len)))))
  where
    long : length (decimal n ++ 10 ∷ []) ≡ length (decimal n) + 1
    long = length-append (decimal n) (10 ∷ [])

    many : length (decimal n) ≡ places n
    many = decimal-length n

    few : places n ≤ 20
    few = (places-few n).1

pub said_accepted : (more : List ℕ) (e : ℕ) (l : List ℕ) {m : List ℕ} → 3 + length more ≤ length l → e ≡ 2 + length more
    → Put 2 more (set (set l 0 48) 1 32) m → Said (printed 0 (32 ∷ more)) l (e + 1) (set m e 10)
said_accepted more e l {m} room q p =
    subst (λ (text : List ℕ). Said text l (e + 1) (set m e 10)) (sym (printed_accepted more))
    (said_put (48 ∷ 32 ∷ (more ++ 10 ∷ [])) (e + 1) (omega (arith, long, room)) (omega (arith, long, q))
    (put_join 0 1 (48 ∷ []) (32 ∷ (more ++ 10 ∷ [])) refl (put_one 0 48 l (omega (arith, room)))
    (put_join 1 2 (32 ∷ []) (more ++ 10 ∷ []) refl (put_one 1 32 (set l 0 48) (omega (arith, room, first)))
    (put_join 2 e more (10 ∷ []) q p (put_one e 10 m (omega (arith, q, room, p.len, first, second)))))))
  where
    long : length (more ++ 10 ∷ []) ≡ length more + 1
    long = length-append more (10 ∷ [])

    first : length (set l 0 48) ≡ length l
    first = length-set l 0 48

    second : length (set (set l 0 48) 1 32) ≡ length (set l 0 48)
    second = length-set (set l 0 48) 1 32

-- ---- the bytes of a read

-- bytes were put in the second half of the place that their digits take; then they were spread
module _ (a size : ℕ) (bytes b m c : List ℕ) (many : length bytes ≡ size) (room : a + 2 * size ≤ length b)
    (put : m ≡ take (a + size) b ++ (bytes ++ drop size (drop (a + size) b))) where
  before_long : length (take (a + size) b) ≡ a + size
  before_long = length-take-le (a + size) b (omega (arith, room))

  after-there : (x : ℕ) → at m (a + size + x) ≡ at (bytes ++ drop size (drop (a + size) b)) x
  after-there x =
      ap (λ (l : List ℕ). at l (a + size + x)) put
      ∙ ap (λ (k : ℕ). at (take (a + size) b ++ (bytes ++ drop size (drop (a + size) b))) (k + x)) (sym before_long)
      ∙ get_or-append-add (take (a + size) b) (bytes ++ drop size (drop (a + size) b)) x 0

  byte_there : (o : ℕ) → o < size → at m (a + size + o) ≡ at bytes o
  byte_there o h = after-there o ∙ get_or-append bytes (drop size (drop (a + size) b)) 0 o (omega (arith, many, h))

  kept_before : (x : ℕ) → x < a + size → at m x ≡ at b x
  kept_before x h =
      ap (λ (l : List ℕ). at l x) put ∙ get_or-append (take (a + size) b) (bytes ++ drop size (drop (a + size) b)) 0 x (omega (arith, before_long, h))
      ∙ get_or-take (a + size) b x 0 h

  kept_after : (x : ℕ) → a + 2 * size ≤ x → at m x ≡ at b x
  kept_after x h =
      let k = x - (a + 2 * size) in
      let here : a + size + (size + k) ≡ x = omega (arith, h) in
      ap (at m) (sym here) ∙ after-there (size + k)
      ∙ ap (λ (n : ℕ). at (bytes ++ drop size (drop (a + size) b)) (n + k)) (sym many) ∙ get_or-append-add bytes (drop size (drop (a + size) b)) k 0
      ∙ get_or-drop size (drop (a + size) b) k 0 ∙ get_or-drop (a + size) b (size + k) 0 ∙ ap (at b) here

  pub long : length m ≡ length b
  long =
      let e = ap length put in
      let f = length-append (take (a + size) b) (bytes ++ drop size (drop (a + size) b)) in
      let g = length-append bytes (drop size (drop (a + size) b)) in
      let h = length-drop size (drop (a + size) b) in
      let i = length-drop (a + size) b in
      omega (arith, e, f, g, h, i, before_long, many, room)

  hex_char : (i : ℕ) → i < 2 * size → at (hex_of bytes) i ≡ digit_at (at bytes (i / 2)) (1 - i % 2)
  unfolding hex_of
  hex_char i h = get_d_tabulate (2 * length bytes) (λ j. digit_at (at bytes (j / 2)) (1 - j % 2)) i 0 (omega (arith, many, h))

  hex_long : length (hex_of bytes) ≡ 2 * length bytes
  unfolding hex_of
  hex_long = length-tabulate (2 * length bytes) _

  digit_there : (x : ℕ) → a ≤ x → x < a + 2 * size → unit_from m (a + size) a x ≡ at (hex_of bytes) (x - a)
  digit_there x h k =
      ap (λ (v : ℕ). digit_at v (1 - (x - a) % 2)) (byte_there ((x - a) / 2) half) ∙ sym (hex_char (x - a) (omega (arith, h, k)))
    where
      half : (x - a) / 2 < size
      half = div_below (x - a) 2 size (omega arith) (omega (arith, h, k))

  pub spread_put : Span (unit_from m (a + size) a) a (a + 2 * size) m c → Put a (hex_of bytes) b c
  spread_put s =
      span_to (a + 2 * size) (a + length (hex_of bytes)) (omega (arith, hex_long, many))
      (span_cong (unit_from m (a + size) a) (λ x. at (hex_of bytes) (x - a)) a (a + 2 * size) digit_there
      (record { len = s.len ∙ long; done = s.done; before = λ x h. s.before x h ∙ kept_before x (omega (arith, h)); after = λ x h. s.after x h ∙ kept_after x h }))

  hex_fills : length (hex_of bytes) ≡ 2 * size
  hex_fills = omega (arith, hex_long, many)

pub read_long : (y : Layout) (R : Record) (img : List ℕ) (offset size : ℕ) → length (read_out y R img offset size) ≡ size
unfolding read_out
read_long y R img offset size =
    grant-either (range_refusal y R (length img) offset size) _ (zeros size) (λ (l : List ℕ). length l ≡ size) (λ z. length-tabulate size _) (λ z. length-tabulate size _)

-- an accepted read, whose bytes `out` were read to their place in the buffer
module _ (y : Layout) (R : Record) (img : List ℕ) (offset size : ℕ) (l : List ℕ) (room : 24 + 2 * size ≤ length l) where
  abbrev pub opened : List ℕ
  opened = set (set l 0 48) 1 32

  -- the part of the buffer that was lent for them
  abbrev slot : ℕ
  slot = 2 + size + size - (2 + size)

  abbrev pub placed : List ℕ → List ℕ
  placed out = take (2 + size) opened ++ (out ++ drop slot (drop (2 + size) opened))

  opened_long : length opened ≡ length l
  opened_long = length-set (set l 0 48) 1 32 ∙ length-set l 0 48

  wide : 2 + 2 * size ≤ length opened
  wide = omega (arith, room, opened_long)

  slot_is : slot ≡ size
  slot_is = omega arith

  lent_is : length (take slot (drop (2 + size) opened)) ≡ size
  lent_is = length-take-le slot (drop (2 + size) opened) (let e = length-drop (2 + size) opened in omega (arith, e, slot_is, wide)) ∙ slot_is

  module _ {n : ℕ} {out : List ℕ} (p : Reads y R img offset (length (take slot (drop (2 + size) opened))) n out) where
    out_is : out ≡ read_out y R img offset size
    out_is = p.bytes ∙ ap (read_out y R img offset) lent_is

    out_long : length out ≡ size
    out_long = ap length out_is ∙ read_long y R img offset size

    placed_is : placed out ≡ take (2 + size) opened ++ (out ++ drop size (drop (2 + size) opened))
    placed_is = ap (λ (j : ℕ). take (2 + size) opened ++ (out ++ drop j (drop (2 + size) opened))) slot_is

    pub placed_long : length (placed out) ≡ length l
    placed_long = long 2 size out opened (placed out) [] out_long wide placed_is ∙ opened_long

    pub bytes_said : {c : List ℕ} → Span (unit_from (placed out) (2 + size) 2) 2 (2 + 2 * size) (placed out) c
        → Said (printed 0 (32 ∷ hex_of (read_out y R img offset size))) l (2 + size + size + 1) (set c (2 + size + size) 10)
    bytes_said {c} s =
        subst (λ (bytes : List ℕ). Said (printed 0 (32 ∷ hex_of bytes)) l (2 + size + size + 1) (set c (2 + size + size) 10)) out_is
        (said_accepted (hex_of out) (2 + size + size) l (omega (arith, room, fills)) (omega (arith, fills)) (spread_put 2 size out opened (placed out) c out_long wide placed_is s))
      where
        fills : length (hex_of out) ≡ 2 * size
        fills = hex_fills 2 size out opened (placed out) c out_long wide placed_is
