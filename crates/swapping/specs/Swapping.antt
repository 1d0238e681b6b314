-- swap: "Target d, now a new drive, leaves the failure list, the others in order." "Every content's bytes go from its old home to its new one".
use Rattle.std.specs.Prelude.{◌≡◌, Bool, true, not, List, [], ◌∷◌, ℕ, ◌-◌, eqb, ltb, length}
use Rattle.lists.specs.Refusal.{refusal_by, grant}
use Rattle.numbers.specs.declared.Layout.{Layout}
use Rattle.homes.specs.declared.Record.{Record}
use Rattle.homes.specs.Records.{failed}
use Rattle.homes.specs.Dropping.{without}
use Rattle.homes.specs.Missing.{home}
use Rattle.pool.specs.Contents.{stored}
use Rattle.pool.specs.Refusals.{pool_tests}
use Rattle.pool.specs.Storing.{storing, Stores}

-- 4 the target is outside, 11 "A target not in the list", 16 "Allowed only if q = k"
abbrev pub swap_tests : Layout → Record → ℕ → List (Bool × ℕ)
swap_tests y R d = (ltb d y.p, 4) ∷ (failed R d, 11) ∷ (eqb R.q R.k, 16) ∷ []

unfoldable pub swap_refusal : Layout → Record → ℕ → ℕ → ℕ
swap_refusal y R len d = refusal_by (pool_tests y R len (swap_tests y R d))

-- every content is stored at its home under the shorter list, as it stood at its home under the longer one, all of them in the image that was lent
abbrev pub swapped_image : Layout → Record → ℕ → List ℕ → List ℕ
swapped_image y R d img = storing y (without R d) (R.q - 1) (λ g o c. true) (stored y R img) img

unfoldable pub swap_image : Layout → Record → List ℕ → ℕ → List ℕ
swap_image y R img d = grant (swap_refusal y R (length img) d) (swapped_image y R d img) img

unfoldable pub swap_record : Layout → Record → ℕ → ℕ → Record
swap_record y R len d = grant (swap_refusal y R len d) (without R d) R

-- the promise
pub record Swaps (y : Layout) (R : Record) (img : List ℕ) (target n : ℕ) (R' : Record) (img' : List ℕ) : Type 0 where
  pub answer : n ≡ swap_refusal y R (length img) target
  pub rec : R' ≡ swap_record y R (length img) target
  pub image : img' ≡ swap_image y R img target

-- ---- "only bytes of new homes change"

-- content c of group g has another home under the shorter list
unfoldable pub home_moves : Layout → Record → ℕ → ℕ → ℕ → Bool
home_moves y R d g c = not (eqb (home y R R.q g c) (home y (without R d) (R.q - 1) g c))

-- image byte x is a byte of such a content's new home
abbrev pub NewHome : Layout → Record → ℕ → ℕ → Type 0
NewHome y R d x = Stores y (without R d) (R.q - 1) (λ g o c. home_moves y R d g c) x
