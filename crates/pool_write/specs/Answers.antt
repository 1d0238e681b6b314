-- The promise of a write from its parts: it is refused and changes nothing, or it is granted and the image is the one written.
use Rattle.std.specs.Prelude.{◌≡◌, List, ℕ, length}
use Rattle.std.proofs.Math.Path.{sym}
use Rattle.std.proofs.Common.{◌∙◌}
use Rattle.lists.specs.Refusal.{grant_no, grant_yes}
use Rattle.numbers.specs.declared.Layout.{Layout}
use Rattle.homes.specs.declared.Record.{Record}
use Rattle.pool.specs.Refusals.{range_refusal}
use Rattle.pool.specs.Writing.{written_image, write_image}
use Rattle.pool.specs.Calls.{Writes}

module _ (y : Layout) (R : Record) (img : List ℕ) (offset : ℕ) (bytes : List ℕ) where
  pub writes-refused : (n : ℕ) → n ≡ range_refusal y R (length img) offset (length bytes) → (n ≡ 0 → ⊥) → Writes y R img offset bytes n img
  unfolding write_image
  writes-refused n e f = record { answer = e; image = sym (grant_no _ _ img (λ z. f (e ∙ z))) }

  pub writes_granted : (img' : List ℕ) (n : ℕ) → n ≡ range_refusal y R (length img) offset (length bytes) → n ≡ 0 → img' ≡ written_image y R img offset bytes
      → Writes y R img offset bytes 0 img'
  unfolding write_image
  writes_granted img' n e z q = record { answer = sym z ∙ e; image = q ∙ sym (grant_yes _ _ img (sym e ∙ z)) }
