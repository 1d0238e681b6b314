-- The writer's loop: before line i the lines before it stand in the text.
use Rattle.std.specs.Prelude.{◌≡◌, refl, List, length}
use Rattle.std.proofs.Math.Path.{sym, ap}
use Rattle.std.proofs.Common.{◌∙◌, subst, mul-zero}
use Prim.Native.Nat.{ℕ, ◌+◌, ◌*◌, ◌-◌, ◌≤◌, ◌<◌}
use native.Mathlib.Omega.{arith}
use Rattle.lists.specs.Digits.{div_of, mod_of}
use Rattle.lists.specs.Span.{Span, span_none, span_join, span_to}
use Rattle.lists.specs.Tabulate.{at, tabulated}
use Rattle.numbers.specs.declared.Layout.{Layout}
use Rattle.hex_text.specs.Hex.{line_char}
use Rattle.hex_text.specs.Runs.{line_from}
use Rattle.hex_text.specs.LineLaws.{line_ext}
use Rattle.pool_text.specs.declared.Line.{Line}
use Rattle.pool_text.specs.Text.{line_length, line_count, text_length, line_target, line_frame, pool_char, text_char, pool_text}
use Rattle.pool_text.specs.Places.{unit_byte_lem, next_start}
use Rattle.pool_text.specs.Here.{Here}

module _ (y : Layout) (image : List ℕ) where
  pub writing_start : (text : List ℕ) → Span (text_char y image) 0 (line_length y * 0) text text
  writing_start text = span_none (text_char y image) 0 text (mul-zero (line_length y))

  -- line i at its place
  line_stands : (l : Line) → Here y l → (x : ℕ) → line_length y * l.i ≤ x → x < line_length y * (l.i + 1)
      → line_from image l.begins y.u l.target l.frame l.at x ≡ text_char y image x
  unfolding pool_char
  line_stands l h x a b =
      (λ k. line_char (h.target_is k) (h.frame_is k) y.u (λ o. at image (h.begins_is k + o)) (x - h.at_is k))
      ∙ line_ext (line_target y i) (line_frame y i) y.u _ _ (λ o b. sym (unit_byte_lem y image i o)) j
      ∙ sym (λ k. pool_char y image (div_of (line_length y) i below k) (mod_of (line_length y) i below k))
      ∙ ap (text_char y image) (let q : line_length y * l.i + (x - line_length y * l.i) ≡ x = omega arith in q)
    where
      i : ℕ
      i = l.i

      j : ℕ
      j = x - line_length y * l.i

      below : x - line_length y * l.i < line_length y
      below = let q = next_start (line_length y) l.i in omega (arith, q)

  -- a line more
  pub writing_next : (l : Line) → Here y l → {old text new : List ℕ} → Span (text_char y image) 0 (line_length y * l.i) old text
      → Span (line_from image l.begins y.u l.target l.frame l.at) l.at (l.at + line_length y) text new
      → Span (text_char y image) 0 (line_length y * (l.i + 1)) old new
  writing_next l h {old} {text} {new} s t =
      span_join (text_char y image) written (text_char y image) 0 (line_length y * l.i) (line_length y * (l.i + 1)) (omega arith) (let q = next_start (line_length y) l.i in omega (arith, q)) s
      (span_to _ _ (sym (next_start (line_length y) l.i))
      (subst (λ (a : ℕ). Span written a (a + line_length y) text new) h.at_is t))
      (λ x a b. refl) (line_stands l h)
    where
      written : ℕ → ℕ
      written = line_from image l.begins y.u l.target l.frame l.at

  -- after the last
  pub writing_done : (i : ℕ) (old text : List ℕ) → i ≡ line_count y → length old ≡ text_length y → Span (text_char y image) 0 (line_length y * i) old text → text ≡ pool_text y image
  unfolding pool_text
  writing_done i old text e len s =
      tabulated (text_length y) (text_char y image) text 0 (s.len ∙ len)
      (λ b h. s.done b (omega arith) (subst (λ (n : ℕ). b < line_length y * n) (sym e) h))
