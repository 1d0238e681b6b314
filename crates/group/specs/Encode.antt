-- "Encoding takes (N+K)·U bytes and sets the K parity units from the N data units." A refused encoding leaves the buffer as it was.
use Rattle.std.specs.Prelude.{◌≡◌, List, [], ◌∷◌, ℕ, ◌*◌, eqb, length}
use Rattle.lists.specs.Refusal.{refusal_by, grant}
use Rattle.numbers.specs.declared.Layout.{Layout}
use Rattle.numbers.specs.Layouts.{contents}
use Rattle.numbers.specs.Refused.{validb}
use Rattle.coding.specs.Buffer.{encoded_of}

-- "a layout number outside the bounds above" is 1, "a .. group .. buffer not of its exact length" 5
unfoldable pub encode_refusal : Layout → ℕ → ℕ
encode_refusal y len = refusal_by ((validb y, 1) ∷ (eqb len (contents y * y.u), 5) ∷ [])

-- the buffer after the call
unfoldable pub encoded : Layout → List ℕ → List ℕ
encoded y buf = grant (encode_refusal y (length buf)) (encoded_of y.n y.u buf) buf

-- what the call promises: its answer and every byte of the buffer
pub record Encodes (y : Layout) (before : List ℕ) (answer : ℕ) (after : List ℕ) : Type 0 where
  pub answers : answer ≡ encode_refusal y (length before)
  pub bytes : after ≡ encoded y before
