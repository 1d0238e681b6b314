-- Two lines are equal only where target, frame and bytes are: a reader can take a line back.
use Rattle.std.specs.Prelude.{◌≡◌, List, ℕ, zero, suc, ◌+◌, ◌*◌, ◌-◌, ◌/◌, ◌%◌, ◌^◌, ◌<◌, length, get_or}
use Rattle.std.proofs.Common.{sym, ap, ◌∙◌, subst, div-one, mod-lt, zero-lt-suc, arith}
use Rattle.std.proofs.Math.Nat.{div-add-mod, div-div-eq-div-mul, pow-succ'}
use Rattle.lists.specs.Digits.{div_below}
use Rattle.lists.specs.Tabulate.{get_d_tabulate}
use Rattle.lists.specs.Refusal.{grant_yes}
use Rattle.numbers.specs.declared.Layout.{Layout}
use Rattle.numbers.specs.Shapes.{layout_products}
use Rattle.hex_text.specs.Hex.{hex_digit, digit_at, line_char}
use Rattle.hexline.specs.HexLine.{unit_byte, hex_refusal, hex_line}
use Rattle.hex_text.specs.HexChars.{char_target, char_frame}
use Rattle.hex_text.specs.CharLaws.{char_digit}
use Rattle.hex_text.specs.Digit.{digit_value}
use Rattle.hex_text.specs.DigitLaws.{digit_value_lem}
use Rattle.hexline.specs.HexCall.{accepted_line}

-- ---- digits

-- different numbers below 16 have different digits: a digit tells its number
pub digit_apart : (x z : ℕ) → x < 16 → z < 16 → hex_digit x ≡ hex_digit z → x ≡ z
digit_apart x z hx hz e = sym (digit_value_lem x hx) ∙ ap digit_value e ∙ digit_value_lem z hz

-- equal digits at a place
same_digit : (x z place : ℕ) → digit_at x place ≡ digit_at z place → x / 16 ^ place % 16 ≡ z / 16 ^ place % 16
same_digit x z place e =
    digit_apart (x / 16 ^ place % 16) (z / 16 ^ place % 16) (mod-lt (x / 16 ^ place) (zero-lt-suc 15)) (mod-lt (z / 16 ^ place) (zero-lt-suc 15)) e

next_digit : (x place : ℕ) → x / 16 ^ suc place ≡ x / 16 / 16 ^ place
next_digit x place = ap (λ (w : ℕ). x / w) (pow-succ' 16 place) ∙ sym (div-div-eq-div-mul x 16 (16 ^ place))

-- numbers of n digits with the same digit at each place are equal
pub digits_apart : (n x z : ℕ) → x < 16 ^ n → z < 16 ^ n → ((place : ℕ) → place < n → digit_at x place ≡ digit_at z place) → x ≡ z
digits_apart zero x z hx hz e = omega (arith, hx, hz)
digits_apart (suc n) x z hx hz e =
    sym (div-add-mod x 16) ∙ (λ i. 16 * digits_apart n (x / 16) (z / 16) (fewer x hx) (fewer z hz) rest i + last i) ∙ div-add-mod z 16
  where
    last : x % 16 ≡ z % 16
    last = ap (λ (w : ℕ). w % 16) (sym (div-one x)) ∙ same_digit x z 0 (e 0 (omega arith)) ∙ ap (λ (w : ℕ). w % 16) (div-one z)

    fewer : (w : ℕ) → w < 16 ^ suc n → w / 16 < 16 ^ n
    fewer w h = div_below w 16 (16 ^ n) (omega arith) (subst (λ (m : ℕ). w < m) (pow-succ' 16 n) h)

    rest : (place : ℕ) → place < n → digit_at (x / 16) place ≡ digit_at (z / 16) place
    rest place b =
        ap (λ (w : ℕ). hex_digit (w % 16)) (sym (next_digit x place)) ∙ e (suc place) (omega arith)
        ∙ ap (λ (w : ℕ). hex_digit (w % 16)) (next_digit z place)

-- ---- lines

-- of one unit length: equal characters, equal target, frame and bytes
pub record Told (u target frame target' frame' : ℕ) (byte byte' : ℕ → ℕ) : Type 0 where
  pub target_is : target ≡ target'
  pub frame_is : frame ≡ frame'
  pub bytes_are : (o : ℕ) → o < u → byte o ≡ byte' o

module _ (u target frame target' frame' : ℕ) (byte byte' : ℕ → ℕ)
    (same : (i : ℕ) → i < 11 + 2 * u → line_char target frame u byte i ≡ line_char target' frame' u byte' i) where
  target_digit : (place : ℕ) → place < 2 → digit_at target place ≡ digit_at target' place
  target_digit place h =
      let e : 1 - (1 - place) ≡ place = omega arith in
      subst (λ (j : ℕ). digit_at target j ≡ digit_at target' j) e
      (sym (char_target target frame u byte (1 - place) (omega arith)) ∙ same (1 - place) (omega arith)
      ∙ char_target target' frame' u byte' (1 - place) (omega arith))

  frame_digit : (place : ℕ) → place < 6 → digit_at frame place ≡ digit_at frame' place
  frame_digit place h =
      let e : 8 - (8 - place) ≡ place = omega arith in
      subst (λ (j : ℕ). digit_at frame j ≡ digit_at frame' j) e
      (sym (char_frame target frame u byte (8 - place) (omega arith) (omega arith)) ∙ same (8 - place) (omega arith)
      ∙ char_frame target' frame' u byte' (8 - place) (omega arith) (omega arith))

  -- digit `place` of byte o is character 10 + (2 o + (1 - place))
  byte_digit : (o place : ℕ) → o < u → place < 2 → digit_at (byte o) place ≡ digit_at (byte' o) place
  byte_digit o place h k =
      let e : 1 - (1 - place) ≡ place = omega arith in
      subst (λ (j : ℕ). digit_at (byte o) j ≡ digit_at (byte' o) j) e
      (sym (char_digit target frame u byte o h (1 - place) (omega arith)) ∙ same (10 + (2 * o + (1 - place))) (omega arith)
      ∙ char_digit target' frame' u byte' o h (1 - place) (omega arith))

  pub told : target < 256 → target' < 256 → frame < 16777216 → frame' < 16777216
      → ((o : ℕ) → o < u → byte o < 256) → ((o : ℕ) → o < u → byte' o < 256) → Told u target frame target' frame' byte byte'
  told a b c d e f =
      record {
        target_is = digits_apart 2 target target' a b target_digit;
        frame_is = digits_apart 6 frame frame' c d frame_digit;
        bytes_are = λ o h. digits_apart 2 (byte o) (byte' o) (e o h) (f o h) (λ place k. byte_digit o place h k);
      }

-- an accepted line's character
char_of : (y : Layout) (image : List ℕ) (target frame n i : ℕ) → hex_refusal y (length image) target frame n ≡ 0 → i < n
    → get_or (hex_line y image target frame n) i 0 ≡ line_char target frame y.u (unit_byte y image target frame) i
unfolding hex_line
char_of y image target frame n i z h = get_d_tabulate n _ i 0 h ∙ grant_yes (hex_refusal y (length image) target frame n) _ 0 z

-- different targets, frames or unit bytes give different lines: accepted lines of one layout that are equal tell the same
pub lines_apart : (y : Layout) (image image' : List ℕ) (target frame target' frame' n : ℕ)
    → ((x : ℕ) → get_or image x 0 < 256) → ((x : ℕ) → get_or image' x 0 < 256)
    → hex_refusal y (length image) target frame n ≡ 0 → hex_refusal y (length image') target' frame' n ≡ 0
    → hex_line y image target frame n ≡ hex_line y image' target' frame' n
    → Told y.u target frame target' frame' (unit_byte y image target frame) (unit_byte y image' target' frame')
unfolding unit_byte
lines_apart y image image' target frame target' frame' n ok ok' z z' e =
    let a = accepted_line y (length image) target frame n z in
    let b = accepted_line y (length image') target' frame' n z' in
    let most = (layout_products y a.valid).frames in
    told y.u target frame target' frame' (unit_byte y image target frame) (unit_byte y image' target' frame')
    (λ i h.
    let k : i < n = omega (arith, a.exact) in
    sym (char_of y image target frame n i z k) ∙ ap (λ (l : List ℕ). get_or l i 0) e ∙ char_of y image' target' frame' n i z' k)
    (omega (arith, a.target_in, a.valid.few_targets)) (omega (arith, b.target_in, a.valid.few_targets))
    (omega (arith, a.frame_in, most)) (omega (arith, b.frame_in, most)) (λ o h. ok _) (λ o h. ok' _)
