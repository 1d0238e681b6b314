-- The characters of a line, part by part.
use Rattle.std.specs.Prelude.{◌≡◌, ℕ, ◌+◌, ◌*◌, ◌-◌, ◌/◌, ◌%◌, ◌≤◌, ◌<◌}
use Rattle.std.proofs.Common.{arith}
use borrow.Author.Tests.{lt-ltb, le-ltb, eq-eqb, ne_eqb}
use Rattle.hex_text.specs.Hex.{digit_at, line_char}

module _ (target frame u : ℕ) (byte : ℕ → ℕ) where
  pub char_target : (i : ℕ) → i < 2 → line_char target frame u byte i ≡ digit_at target (1 - i)
  unfolding line_char
  char_target i h = simp (lt-ltb i 2 h)

  pub char_space : (i : ℕ) → i ≡ 2 → line_char target frame u byte i ≡ 32
  unfolding line_char
  char_space i h = simp (le-ltb i 2 (omega arith), eq-eqb i 2 h)

  pub char_frame : (i : ℕ) → 2 < i → i < 9 → line_char target frame u byte i ≡ digit_at frame (8 - i)
  unfolding line_char
  char_frame i h k = simp (le-ltb i 2 (omega arith), ne_eqb i 2 (λ e. omega (arith, e)), lt-ltb i 9 k)

  pub char_second : (i : ℕ) → i ≡ 9 → line_char target frame u byte i ≡ 32
  unfolding line_char
  char_second i h = simp (le-ltb i 2 (omega arith), ne_eqb i 2 (λ e. omega (arith, e)), le-ltb i 9 (omega arith), eq-eqb i 9 h)

  pub char_byte : (i : ℕ) → 9 < i → i < 10 + 2 * u → line_char target frame u byte i ≡ digit_at (byte ((i - 10) / 2)) (1 - (i - 10) % 2)
  unfolding line_char
  char_byte i h k =
      simp (
        le-ltb i 2 (omega arith),
        ne_eqb i 2 (λ e. omega (arith, e)),
        le-ltb i 9 (omega arith),
        ne_eqb i 9 (λ e. omega (arith, e)),
        lt-ltb i
            (10 + 2 * u) k,
      )

  pub char_end : (i : ℕ) → 10 + 2 * u ≤ i → line_char target frame u byte i ≡ 10
  unfolding line_char
  char_end i h =
      simp (
        le-ltb i 2 (omega arith),
        ne_eqb i 2 (λ e. omega (arith, e)),
        le-ltb i 9 (omega arith),
        ne_eqb i 9 (λ e. omega (arith, e)),
        le-ltb i
            (10 + 2 * u) h,
      )
