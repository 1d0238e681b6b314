-- Products that place units in a buffer.
use Rattle.std.specs.Prelude.{◌≡◌, ℕ, suc, ◌+◌, ◌*◌, ◌<◌, ◌≤◌}
use Rattle.std.proofs.Common.{sym, ap, ◌∙◌, inl, inr, mul-le-mul_right, suc-mul, add_assoc, add-mul, one-mul, arith}
use Rattle.lists.specs.Pick.{below_or_not}
use Rattle.kernel.specs.InPlace.{Apart}

-- a unit ends where the next one starts
pub unit_end : (u m unit : ℕ) → u < m → u * unit + unit ≤ m * unit
unit_end u m unit h =
    let b : suc u * unit ≤ m * unit = mul-le-mul_right unit h in
    let g : suc u * unit ≡ u * unit + unit = simp suc-mul in
    omega arith

-- two of m units lie apart
pub units_apart : (v u m unit : ℕ) {s at size : ℕ} → s ≡ v * unit → at ≡ u * unit → m * unit ≤ size → v < m → (v ≡ u → ⊥) → Apart s at unit size
units_apart v u m unit es ea l h ne =
    let i = unit_end v m unit h in
    record {
      inside = omega arith;
      aside = below_or_not v u (λ (b : v < u). let y = unit_end v u unit b in inl (omega arith))
          (λ (b : u ≤ v). below_or_not u v (λ (g : u < v). let y = unit_end u v unit g in inr (omega arith)) (λ (g : v ≤ u). absurd (ne (omega arith))));
    }

pub next_unit : (u unit : ℕ) → (u + 1) * unit ≡ u * unit + unit
next_unit u unit = add-mul u 1 unit ∙ ap (u * unit +◌) (one-mul unit)

pub next_parity : (n i unit : ℕ) → (n + (i + 1)) * unit ≡ (n + i) * unit + unit
next_parity n i unit = ap (◌* unit) (sym (add_assoc n i 1)) ∙ next_unit (n + i) unit
