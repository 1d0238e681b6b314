-- The missing unit that is filled by a plain sum: which one that is, and the sum.
use Rattle.std.specs.Prelude.{◌≡◌, refl, Bool, true, false, List, ℕ, ◌+◌, ◌*◌, ◌<◌, ◌≤◌, eqb, length, get_or, set, replicate, Option, Some, None}
use Rattle.std.proofs.Common.{sym, ap, ap₂, ◌∙◌, ⊎_elim, le_trans, arith, get_or-set_same, get_or-set_other, eq-eqb, ne_eqb, eqb-true}
use Rattle.std.specs.Option.{option_eq}
use Rattle.std.proofs.lemmas.List.{get_or-replicate}
use Rattle.lists.specs.Pick.{pick, pick_true, pick-false, either_way, equal_or_not, clash}
use Rattle.field.specs.Byte.{mul}
use Rattle.field.proofs.Laws.{one-mul}
use Rattle.field.specs.Sum.{sum_to, sum_cong}
use Rattle.kernel.specs.Combine.{sum_at}
use Rattle.kernel.specs.InPlace.{Apart}
use Rattle.parity.specs.Group.{lost}
use Rattle.coding.specs.Buffer.{column}
use Rattle.coding.specs.Units.{units_apart, next_unit}
use Rattle.coding.specs.Encoding.{data_units, data_unit_at}

-- the missing unit that is a plain sum, counted from 1: the last lost data unit, where parity unit 0 is there; 0 where there is none
abbrev pub closing_of : ℕ → (ℕ → Bool) → ℕ
closing_of n miss = pick (miss n) 0 (length (lost n miss))

pub closes : (n : ℕ) (miss : ℕ → Bool) (q : ℕ) → q + 1 ≡ closing_of n miss → (miss n ≡ false) × (q + 1 ≡ length (lost n miss))
closes n miss q e =
    ⊎_elim (λ (t : miss n ≡ true). absurd (omega (arith, e ∙ pick_true (miss n) 0 (length (lost n miss)) t)))
    (λ (t : miss n ≡ false). (t, e ∙ pick-false (miss n) 0 (length (lost n miss)) t)) (either_way (miss n))

-- the same, as the code answers it: counted from 0
abbrev pub IsClosing : Option ℕ → ℕ → (ℕ → Bool) → Type 0
IsClosing None n miss = closing_of n miss ≡ 0
IsClosing (Some q) n miss = q + 1 ≡ closing_of n miss

-- the test of the code
pub is_due : (last : Option ℕ) (q n : ℕ) (miss : ℕ → Bool) {t : Bool} → t ≡ option_eq eqb last (Some q) → t ≡ true → IsClosing last n miss → q + 1 ≡ closing_of n miss
is_due None q n miss e t h = clash false (sym e ∙ t) refl
is_due (Some p) q n miss e t h = ap (◌+ 1) (sym (eqb-true p q (sym e ∙ t))) ∙ h

-- the unit read for data unit j: parity unit 0 in place of u
abbrev pub stand_in : ℕ → ℕ → ℕ → ℕ
stand_in n u j = pick (eqb j u) n j

-- as the code holds them
pub stand_in_at : (n u j : ℕ) → n ≤ 16 → u < n → j < n → get_or (set data_units u n) j 0 ≡ stand_in n u j
stand_in_at n u j n16 h l =
    equal_or_not j u
    (λ (e : j ≡ u).
    ap (λ (z : ℕ). get_or (set data_units u n) z 0) e ∙ get_or-set_same data_units u n 0 (le_trans h n16) ∙ sym (pick_true (eqb j u) n j (eq-eqb j u e)))
    (λ (ne : j ≡ u → ⊥).
    get_or-set_other data_units u j n 0 ne ∙ data_unit_at j (le_trans l n16) ∙ sym (pick-false (eqb j u) n j (ne_eqb j u ne)))

-- the sum, at one position
unfoldable pub closing_sum : ℕ → ℕ → ℕ → List ℕ → ℕ → ℕ
closing_sum n unit u buf at = sum_to n (λ j. column buf unit at (stand_in n u j))

-- it is what the kernel makes with ones for coefficients
pub ones_sum : (n unit u : ℕ) (starts buf : List ℕ) → n ≤ 16 → ((j : ℕ) → j < n → get_or starts j 0 ≡ stand_in n u j * unit) → ((x : ℕ) → get_or buf x 0 < 256)
    → (at : ℕ) → sum_at n (replicate 16 1) starts buf at ≡ closing_sum n unit u buf at
unfolding sum_at closing_sum
ones_sum n unit u starts buf n16 starts_at b at =
    sum_cong n _ _ (λ j h. ap₂ mul (get_or-replicate 16 j 1 0 (le_trans h n16)) (ap (λ (z : ℕ). get_or buf (z + at) 0) (starts_at j h)) ∙ one-mul _ (b (stand_in n u j * unit + at)))

-- the units that it reads lie apart from u
pub others_apart : (n unit u : ℕ) {size : ℕ} → u < n → n * unit + unit ≤ size → (j : ℕ) → j < n → {s : ℕ} → s ≡ stand_in n u j * unit
    → Apart s (u * unit) unit size
others_apart n unit u {size} h fits j l {s} e =
    units_apart (stand_in n u j) u (n + 1) unit e refl (omega (arith, next_unit n unit)) other.0 other.1
  where
    other : (stand_in n u j < n + 1) × (stand_in n u j ≡ u → ⊥)
    other =
        equal_or_not j u (λ (w : j ≡ u). let v = pick_true (eqb j u) n j (eq-eqb j u w) in (omega arith, λ z. omega arith))
        (λ (w : j ≡ u → ⊥). let v = pick-false (eqb j u) n j (ne_eqb j u w) in (omega arith, λ z. w (omega arith)))
