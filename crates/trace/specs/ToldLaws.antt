-- What a line of each kind tells, and lines that tell nothing.
use Rattle.std.specs.Prelude.{◌≡◌, List, ℕ, ◌-◌, ◌<◌, length}
use Rattle.std.proofs.Math.Path.{refl, ap}
use Rattle.std.proofs.Common.{sym, ◌∙◌}
use borrow.Author.Tests.{ne_eqb}
use Rattle.lists.specs.Tabulate.{at}
use Rattle.hex_text.specs.Digit.{number_at}
use Rattle.trace.specs.Forms.{kind_of, bytes_of}
use Rattle.trace.specs.FormLaws.{kind_long, kind_unended}
use Rattle.trace.specs.Told.{bytes_small, malformed, told_write, told_fail, told_repair, told_read, told_as, told_of}

module _ (line : List ℕ) where
  told_as_lem : (kind : ℕ) → kind_of line ≡ kind → told_of line ≡ told_as kind line
  unfolding told_of
  told_as_lem kind e = ap (λ (k : ℕ). told_as k line) e

  pub told_write_lem : kind_of line ≡ 1 → told_of line ≡ told_write (number_at line 3 16) (bytes_of line) (bytes_small line)
  unfolding told_as
  told_write_lem e = told_as_lem 1 e

  pub told_fail_lem : kind_of line ≡ 2 → told_of line ≡ told_fail (number_at line 3 2)
  unfolding told_as
  told_fail_lem e = told_as_lem 2 e

  pub told_repair_lem : kind_of line ≡ 3 → told_of line ≡ told_repair
  unfolding told_as
  told_repair_lem e = told_as_lem 3 e

  pub told_read_lem : kind_of line ≡ 4 → told_of line ≡ told_read (number_at line 3 16) (number_at line 20 16)
  unfolding told_as
  told_read_lem e = told_as_lem 4 e

  pub told_none : (kind_of line ≡ 1 → ⊥) → (kind_of line ≡ 2 → ⊥) → (kind_of line ≡ 3 → ⊥) → (kind_of line ≡ 4 → ⊥) → told_of line ≡ malformed
  unfolding told_of told_as
  told_none a b c d = simp (ne_eqb (kind_of line) 1 a, ne_eqb (kind_of line) 2 b, ne_eqb (kind_of line) 3 c, ne_eqb (kind_of line) 4 d)

  -- one of more than 8,300 bytes before its newline, and one that does not end with a newline
  none_told : told_as 0 line ≡ malformed
  unfolding told_as
  none_told = refl

  pub told_long : 8301 < length line → told_of line ≡ malformed
  told_long h = told_as_lem 0 (sym (kind_long line h)) ∙ none_told

  pub told_unended : (at line (length line - 1) ≡ 10 → ⊥) → told_of line ≡ malformed
  told_unended f = told_as_lem 0 (sym (kind_unended line f)) ∙ none_told
