-- Each event has exactly one line that tells it: the line that is written tells the event, and a line that tells an event is the one that is written.
use Rattle.std.specs.Prelude.{◌≡◌, true, ℕ, ◌+◌, ◌*◌, ◌-◌, ◌/◌, ◌%◌, ◌^◌, ◌≤◌, ◌<◌, length}
use Rattle.std.proofs.Math.Path.{refl}
use Rattle.std.proofs.Common.{sym, ap, ap₂, ◌∙◌, subst, mod-lt, arith}
use mathlib.Core.HLevel.{Π_prop, is_prop→PathP}
use mathlib.Core.List.{List, [], ◌∷◌}
use Rattle.std.proofs.Math.Nat.{div-add-mod}
use Rattle.std.proofs.Math.Bridge.{le_prop}
use Rattle.lists.specs.Pick.{equal_or_not}
use Rattle.lists.specs.Search.{all-at}
use Rattle.lists.specs.Digits.{div_of, mod_of}
use Rattle.lists.specs.Tabulate.{at, length-tabulate, get_d_tabulate, tabulated}
use Rattle.hex_text.specs.Hex.{digit_at, digits_of, hex_of}
use Rattle.hex_text.specs.Digit.{is_digit, digit_value, digits_at, number_at}
use Rattle.hex_text.specs.Line.{byte_at}
use Rattle.hex_text.specs.DigitLaws.{digit_is, byte_told, told_high, told-low}
use Rattle.hex_text.specs.NumberLaws.{number_lt, number_fits}
use Rattle.trace.specs.Fields.{fields_at, field_line}
use Rattle.trace.specs.FieldLaws.{end_of, fields_length}
use Rattle.trace.specs.FieldLines.{Each, Digital, Stands, line_fields, split_field, fields_line, digital_digits, stands_number, number_stands}
use Rattle.trace.specs.Forms.{byte_count, form_of, kind_of, bytes_of}
use Rattle.trace.specs.FormLaws.{form_write, form_fail, form_repair, form_read, form_none, kind_short, kind_right, of_kind, write_length}
use Rattle.trace.specs.ToldLaws.{told_write_lem, told_fail_lem, told_repair_lem, told_read_lem}
use Rattle.trace.specs.Told.{bytes_small, Told, malformed, told_write, told_fail, told_repair, told_read, told_as, told_of}
use Rattle.trace.specs.Written.{fields_of, line_of, Tellable}

-- ---- the bytes of a write and their digits

-- digit r of byte o, of the two
hex_at : (bytes : List ℕ) (o r : ℕ) → o < length bytes → r < 2 → at (hex_of bytes) (2 * o + r) ≡ digit_at (at bytes o) (1 - r)
unfolding hex_of
hex_at bytes o r h k =
    get_d_tabulate (2 * length bytes) (λ i. digit_at (at bytes (i / 2)) (1 - i % 2)) (2 * o + r) 0 (omega arith)
    ∙ (λ i. digit_at (at bytes (div_of 2 o k i)) (1 - mod_of 2 o k i))

length_hex : (bytes : List ℕ) → length (hex_of bytes) ≡ 2 * length bytes
unfolding hex_of
length_hex bytes = length-tabulate (2 * length bytes) _

module _ (l : List ℕ) (a : ℕ) where
  -- where the digits of bytes stand, they tell the bytes
  byte_digits : (bytes : List ℕ) → ((i : ℕ) → i < 2 * length bytes → at l (a + i) ≡ at (hex_of bytes) i)
      → (o : ℕ) → o < length bytes → at bytes o < 256 → byte_at l (a + 2 * o) ≡ at bytes o
  byte_digits bytes d o h small =
      ap₂ (λ (c e : ℕ). 16 * digit_value c + digit_value e) (ap (at l) first ∙ there 0 (omega arith)) (ap (at l) second ∙ there 1 (omega arith))
      ∙ byte_told (at bytes o) small
    where
      there : (r : ℕ) → r < 2 → at l (a + (2 * o + r)) ≡ digit_at (at bytes o) (1 - r)
      there r k = d (2 * o + r) (omega arith) ∙ hex_at bytes o r h k

      first : a + 2 * o ≡ a + (2 * o + 0)
      first = omega arith

      second : a + 2 * o + 1 ≡ a + (2 * o + 1)
      second = omega arith

  -- the digits of the bytes that digits tell are these
  digits_byte : (bytes : List ℕ) → ((i : ℕ) → i < 2 * length bytes → is_digit (at l (a + i)) ≡ true)
      → ((o : ℕ) → o < length bytes → at bytes o ≡ byte_at l (a + 2 * o)) → (i : ℕ) → i < 2 * length bytes → at l (a + i) ≡ at (hex_of bytes) i
  digits_byte bytes t d i h =
      equal_or_not (i % 2) 0
      (λ (z : i % 2 ≡ 0). let e : 2 * o + 0 ≡ i = omega arith in subst Right e (half 0 (omega arith) (ap (at l) first ∙ sym (told_high _ _ is_first is_second))))
      (λ (z : i % 2 ≡ 0 → ⊥). let e : 2 * o + 1 ≡ i = omega arith in subst Right e (half 1 (omega arith) (ap (at l) second ∙ sym (told-low _ _ is_first is_second))))
    where
      o : ℕ
      o = i / 2

      whole : 2 * o + i % 2 ≡ i
      whole = div-add-mod i 2

      among : o < length bytes
      among = omega (arith, whole)

      Right : ℕ → Type 0
      Right p = at l (a + p) ≡ at (hex_of bytes) p

      half : (r : ℕ) → r < 2 → at l (a + (2 * o + r)) ≡ digit_at (byte_at l (a + 2 * o)) (1 - r) → Right (2 * o + r)
      half r k c = c ∙ ap (λ (x : ℕ). digit_at x (1 - r)) (sym (d o among)) ∙ sym (hex_at bytes o r among k)

      first : a + (2 * o + 0) ≡ a + 2 * o
      first = omega arith

      second : a + (2 * o + 1) ≡ a + 2 * o + 1
      second = omega arith

      is_first : is_digit (at l (a + 2 * o)) ≡ true
      is_first = t (2 * o) (omega arith)

      is_second : is_digit (at l (a + 2 * o + 1)) ≡ true
      is_second = ap (λ (p : ℕ). is_digit (at l p)) (sym second) ∙ t (2 * o + 1) (omega arith)

-- ---- the line of an event tells it

digital_hex : (a : ℕ) (bytes : List ℕ) → Digital a (2 * length bytes) (hex_of bytes)
unfolding hex_of
digital_hex a bytes = (
  length_hex bytes,
  λ j h. ap is_digit (get_d_tabulate (2 * length bytes) (λ i. digit_at (at bytes (i / 2)) (1 - i % 2)) j 0 h)
      ∙ digit_is (at bytes (j / 2) / 16 ^ (1 - j % 2) % 16) (mod-lt (at bytes (j / 2) / 16 ^ (1 - j % 2)) (omega arith)),
)

-- the line whose first field is a kind, and whose other fields have the widths of that kind, is of the kind
kind_written : (line : List ℕ) (kind : ℕ) (ws : List ℕ) (fs : List (List ℕ)) → line ≡ field_line (digits_of 2 kind ∷ fs) → kind < 256
    → Each Digital 3 ws fs → end_of 3 ws ≤ 8301 → form_of ((end_of 3 ws - 21) / 2) kind ≡ 2 ∷ ws
    → (kind ≡ kind_of line) × (length line ≡ end_of 3 ws) × Each (Stands line) 3 ws fs
kind_written line kind ws fs is small d few form =
    let s = line_fields line 0 (2 ∷ ws) (digits_of 2 kind ∷ fs) (digital_digits 0 2 kind, d) (omega arith) is in
    let long = fields_length line 0 (2 ∷ ws) s.0 in (
      kind_right line kind (sym (stands_number line 0 2 kind small s.1.0)) (omega (arith, long))
          (ap (fields_at line 0) (ap (λ (n : ℕ). form_of ((n - 21) / 2) kind) long ∙ form) ∙ s.0),
      long,
      s.1.1,
    )

-- that its bytes are bytes is known of a write in one way
same_write : {x y : ℕ} {bytes bytes' : List ℕ} {small : (i : ℕ) → i < length bytes → at bytes i < 256} {small' : (i : ℕ) → i < length bytes' → at bytes' i < 256}
    → x ≡ y → bytes ≡ bytes' → told_write x bytes small ≡ told_write y bytes' small'
same_write {small = small} {small' = small'} e b =
    λ i. told_write (e i) (b i) (is_prop→PathP (λ k. (j : ℕ) → j < length (b k) → at (b k) j < 256) (λ k. Π_prop (λ j. Π_prop (λ h. le_prop))) small small' i)

-- an event that is written and read again is the same event
pub told-written : (t : Told) → Tellable t → told_of (line_of t) ≡ t
unfolding told_of told_as line_of fields_of bytes_of
told-written malformed h = absurd h
told-written (told_write offset bytes small) h =
    let line = line_of (told_write offset bytes small) in
    let n = length bytes in
    let w = kind_written line 1 (16 ∷ 2 * n ∷ []) (digits_of 16 offset ∷ hex_of bytes ∷ []) refl (omega arith) (digital_digits 3 16 offset, (digital_hex 20 bytes, tt))
    (omega arith) (form_write _ 1 refl ∙ ap (λ (c : ℕ). 2 ∷ 16 ∷ 2 * c ∷ []) (many n)) in
    let count : byte_count line ≡ n = ap (λ (m : ℕ). (m - 21) / 2) w.1 ∙ many n in
    ap (λ (k : ℕ). told_as k line) (sym w.0)
    ∙ same_write (stands_number line 3 16 offset h.0 w.2.0)
    (sym (tabulated (byte_count line) (λ j. byte_at line (20 + 2 * j)) bytes 0 (sym count)
    (λ o b. let b' : o < n = omega (arith, count) in sym (byte_digits line 20 bytes w.2.1.0.1 o b' (small o b')))))
  where
    many : (n : ℕ) → (20 + 2 * n + 1 - 21) / 2 ≡ n
    many n = let e : 20 + 2 * n + 1 - 21 ≡ 2 * n + 0 = omega arith in ap (λ (m : ℕ). m / 2) e ∙ div_of 2 n (omega arith)
told-written (told_fail target) h =
    let line = line_of (told_fail target) in
    let w = kind_written line 2 (2 ∷ []) (digits_of 2 target ∷ []) refl (omega arith) (digital_digits 3 2 target, tt) (omega arith) (form_fail _ 2 refl) in
    ap (λ (k : ℕ). told_as k line) (sym w.0) ∙ ap told_fail (stands_number line 3 2 target h w.2.0)
told-written told_repair h =
    ap (λ (k : ℕ). told_as k (line_of told_repair)) (sym (kind_written (line_of told_repair) 3 [] [] refl (omega arith) tt (omega arith) (form_repair _ 3 refl)).0)
told-written (told_read offset size) h =
    let line = line_of (told_read offset size) in
    let w = kind_written line 4 (16 ∷ 16 ∷ []) (digits_of 16 offset ∷ digits_of 16 size ∷ []) refl (omega arith)
    (digital_digits 3 16 offset, (digital_digits 20 16 size, tt)) (omega arith) (form_read _ 4 refl) in
    ap (λ (k : ℕ). told_as k line) (sym w.0)
    ∙ ap₂ told_read (stands_number line 3 16 offset h.0 w.2.0) (stands_number line 20 16 size h.1 w.2.1.0)

-- ---- a line that tells an event is the line of the event

module _ (line : List ℕ) where
  -- a line of a kind, its other fields being known by their digits
  line-written : (kind : ℕ) (ws : List ℕ) (fs : List (List ℕ)) → kind_of line ≡ kind → 0 < kind → form_of (byte_count line) kind ≡ 2 ∷ ws
      → (fields_at line 3 ws ≡ true → Each (Stands line) 3 ws fs) → field_line (digits_of 2 kind ∷ fs) ≡ line
  line-written kind ws fs e some form rest =
      let k = of_kind line kind e some in
      let t = ap (fields_at line 0) (sym form) ∙ k.fields in
      let parts = split_field line 0 2 ws t in
      sym (fields_line line 0 (2 ∷ ws) (digits_of 2 kind ∷ fs) t (number_stands line 0 2 kind parts.0 k.named, rest parts.2))

  count-told : length (bytes_of line) ≡ byte_count line
  unfolding bytes_of
  count-told = length-tabulate (byte_count line) _

  byte_at_lem : (o : ℕ) → o < length (bytes_of line) → at (bytes_of line) o ≡ byte_at line (20 + 2 * o)
  unfolding bytes_of
  byte_at_lem o h = get_d_tabulate (byte_count line) (λ j. byte_at line (20 + 2 * j)) o 0 (omega (arith, count-told))

  bytes_stand : digits_at line 20 (2 * byte_count line) ≡ true → Stands line 20 (2 * byte_count line) (hex_of (bytes_of line))
  bytes_stand t = (
    length_hex (bytes_of line) ∙ ap (λ (n : ℕ). 2 * n) count-told,
    λ j h. digits_byte line 20 (bytes_of line) (λ i b. all-at (λ k. is_digit (at line (20 + k))) (2 * byte_count line) t i (omega (arith, count-told))) byte_at_lem j (omega (arith, count-told)),
  )

  -- what a line of a kind tells, kind by kind
  by_kind : (P : Told → Type 0) → 0 < kind_of line
      → (kind_of line ≡ 1 → P (told_write (number_at line 3 16) (bytes_of line) (bytes_small line)))
      → (kind_of line ≡ 2 → P (told_fail (number_at line 3 2)))
      → (kind_of line ≡ 3 → P told_repair)
      → (kind_of line ≡ 4 → P (told_read (number_at line 3 16) (number_at line 20 16))) → P (told_of line)
  by_kind P some f g h i =
      equal_or_not (kind_of line) 1 (λ (e : kind_of line ≡ 1). subst P (sym (told_write_lem line e)) (f e))
      (λ (a : kind_of line ≡ 1 → ⊥).
      equal_or_not (kind_of line) 2 (λ (e : kind_of line ≡ 2). subst P (sym (told_fail_lem line e)) (g e))
      (λ (b : kind_of line ≡ 2 → ⊥).
      equal_or_not (kind_of line) 3 (λ (e : kind_of line ≡ 3). subst P (sym (told_repair_lem line e)) (h e))
      (λ (c : kind_of line ≡ 3 → ⊥).
      equal_or_not (kind_of line) 4 (λ (e : kind_of line ≡ 4). subst P (sym (told_read_lem line e)) (i e))
      (λ (d : kind_of line ≡ 4 → ⊥).
      let k = of_kind line (kind_of line) refl some in
      let none = fields_length line 0 [] (ap (fields_at line 0) (sym (form_none (byte_count line) (kind_of line) a b c d)) ∙ k.fields) in
      absurd (omega (arith, some, kind_short line (omega (arith, none))))))))

  -- what a line tells has a line
  pub tellable_told : 0 < kind_of line → Tellable (told_of line)
  tellable_told some =
      by_kind Tellable some
      (λ e. let n = write_length line e in (number_fits line 3 16 (omega arith), omega (arith, n, count-told)))
      (λ e. number_lt line 3 2) (λ e. tt) (λ e. (number_fits line 3 16 (omega arith), number_fits line 20 16 (omega arith)))

  -- and the line is this one: read and written again it is the same line
  pub written-told : 0 < kind_of line → line_of (told_of line) ≡ line
  unfolding line_of fields_of
  written-told some =
      by_kind (λ (t : Told). line_of t ≡ line) some
      (λ e. line-written 1 (16 ∷ 2 * byte_count line ∷ []) (digits_of 16 (number_at line 3 16) ∷ hex_of (bytes_of line) ∷ []) e (omega arith) (form_write _ 1 refl)
      (λ t. let a = split_field line 3 16 (2 * byte_count line ∷ []) t in
      (number_stands line 3 16 _ a.0 refl, (bytes_stand (split_field line 20 (2 * byte_count line) [] a.2).0, tt))))
      (λ e. line-written 2 (2 ∷ []) (digits_of 2 (number_at line 3 2) ∷ []) e (omega arith) (form_fail _ 2 refl)
      (λ t. (number_stands line 3 2 _ (split_field line 3 2 [] t).0 refl, tt)))
      (λ e. line-written 3 [] [] e (omega arith) (form_repair _ 3 refl) (λ t. tt))
      (λ e. line-written 4 (16 ∷ 16 ∷ []) (digits_of 16 (number_at line 3 16) ∷ digits_of 16 (number_at line 20 16) ∷ []) e (omega arith) (form_read _ 4 refl)
      (λ t. let a = split_field line 3 16 (16 ∷ []) t in
      (number_stands line 3 16 _ a.0 refl, (number_stands line 20 16 _ (split_field line 20 16 [] a.2).0 refl, tt))))

  -- a line is of some kind just where it tells an event
  pub some_told : 0 < kind_of line → told_of line ≡ malformed → ⊥
  some_told some e = subst Tellable e (tellable_told some)

  pub told_some : (told_of line ≡ malformed → ⊥) → 0 < kind_of line
  unfolding told_of told_as
  told_some f = equal_or_not (kind_of line) 0 (λ (e : kind_of line ≡ 0). absurd (f (ap (λ (k : ℕ). told_as k line) e))) (λ (n : kind_of line ≡ 0 → ⊥). omega arith)

-- ---- hence no two events are confused

-- two lines that tell one event are one line
pub one_line : (l m : List ℕ) → 0 < kind_of l → 0 < kind_of m → told_of l ≡ told_of m → l ≡ m
one_line l m h k e = sym (written-told l h) ∙ ap line_of e ∙ written-told m k

-- two events that have one line are one event
pub one_event : (t u : Told) → Tellable t → Tellable u → line_of t ≡ line_of u → t ≡ u
one_event t u h k e = sym (told-written t h) ∙ ap told_of e ∙ told-written u k

-- a line that tells an event is the event's
pub the_line : (t : Told) → Tellable t → (line : List ℕ) → told_of line ≡ t → line ≡ line_of t
the_line t h line e = sym (written-told line (told_some line (λ n. subst Tellable (sym e ∙ n) h))) ∙ ap line_of e
