-- The cases of an entry of the equations; a cofactor and the inverse as the code works them out.
use Rattle.std.specs.Prelude.{◌≡◌, ℕ, ◌<◌, ◌≤◌, get_or}
use Rattle.std.proofs.Math.Path.{ap, ap₂}
use Rattle.std.proofs.Common.{◌∙◌, arith}
use mathlib.Core.List.{List, [], ◌∷◌}
use Rattle.std.specs.Int.Bits.{bit_xor}
use borrow.Author.Tests.{lt-ltb, le-ltb, eq-eqb, ne_eqb}
use Rattle.field.specs.Byte.{◌⊕◌, mul, inv}
use Rattle.systems.specs.Coef.{coef}
use Rattle.systems.specs.Cramer.{lo, hi, cof, det, inverse}
use Rattle.systems.specs.Matrix.{ent, three_of, square_of, dot_of}
use Rattle.systems.specs.System.{system_entry}

module _ (is ks : List ℕ) (d r c : ℕ) where
  pub both-within : r < d → c < d → coef (get_or is r 0) (get_or ks c 0) ≡ system_entry is ks d r c
  unfolding system_entry
  both-within h k = simp (lt-ltb r d h, lt-ltb c d k)

  pub row_within : r < d → d ≤ c → 0 ≡ system_entry is ks d r c
  unfolding system_entry
  row_within h k = simp (lt-ltb r d h, le-ltb c d k, ne_eqb r c (λ (e : r ≡ c). absurd (omega arith)))

  pub on_diagonal : d ≤ r → r ≡ c → 1 ≡ system_entry is ks d r c
  unfolding system_entry
  on_diagonal h e = simp (le-ltb r d h, eq-eqb r c e)

  pub off_diagonal : d ≤ r → (r ≡ c → ⊥) → 0 ≡ system_entry is ks d r c
  unfolding system_entry
  off_diagonal h e = simp (le-ltb r d h, ne_eqb r c e)

pub cofactor_made : (m : List (List ℕ)) (r c : ℕ) {i k j l x y : ℕ} → i ≡ lo r → k ≡ hi r → j ≡ lo c → l ≡ hi c
    → x ≡ mul (ent m i j) (ent m k l) → y ≡ mul (ent m i l) (ent m k j) → bit_xor x y ≡ cof (ent m) r c
unfolding cof ◌⊕◌
cofactor_made m r c ei ek ej el ex ey =
    ap₂ bit_xor (ex ∙ ap₂ mul (ap₂ (ent m) ei ej) (ap₂ (ent m) ek el)) (ey ∙ ap₂ mul (ap₂ (ent m) ei el) (ap₂ (ent m) ek ej))

-- from the cofactors a, b and c of the columns, and d, the inverse of the determinant e
module _ (m : List (List ℕ)) {a b c : List ℕ} {e d : ℕ}
    (ea : a ≡ three_of (λ r. cof (ent m) r 0)) (eb : b ≡ three_of (λ r. cof (ent m) r 1)) (ec : c ≡ three_of (λ r. cof (ent m) r 2))
    (ee : e ≡ dot_of (get_or m 0 []) (get_or a 0 0 ∷ get_or b 0 0 ∷ get_or c 0 0 ∷ [])) (ed : d ≡ inv e) where
  first_entry : {l : List ℕ} (k : ℕ) → l ≡ three_of (λ r. cof (ent m) r k) → get_or l 0 0 ≡ cof (ent m) 0 k
  first_entry k h = ap (λ (z : List ℕ). get_or z 0 0) h

  det_made : e ≡ det (ent m)
  unfolding det
  det_made =
      ee ∙ ap₂ (λ (x : ℕ) (y : List ℕ). dot_of (get_or m 0 []) (x ∷ y)) (first_entry 0 ea)
      (ap₂ (λ (x : ℕ) (y : List ℕ). x ∷ y) (first_entry 1 eb) (ap (λ (x : ℕ). x ∷ []) (first_entry 2 ec)))

  row_made : {l x : List ℕ} (k : ℕ) → l ≡ three_of (λ r. cof (ent m) r k) → x ≡ three_of (λ r. mul (get_or l r 0) d) → x ≡ three_of (inverse (ent m) k)
  unfolding inverse
  row_made k h q = q ∙ ap₂ (λ (z : List ℕ) (v : ℕ). three_of (λ r. mul (get_or z r 0) v)) h (ed ∙ ap inv det_made)

  pub inverse_made : {x y z : List ℕ} → x ≡ three_of (λ r. mul (get_or a r 0) d) → y ≡ three_of (λ r. mul (get_or b r 0) d) → z ≡ three_of (λ r. mul (get_or c r 0) d)
      → x ∷ y ∷ z ∷ [] ≡ square_of (inverse (ent m))
  inverse_made ex ey ez =
      ap₂ (λ (u : List ℕ) (v : List (List ℕ)). u ∷ v) (row_made 0 ea ex)
      (ap₂ (λ (u : List ℕ) (v : List (List ℕ)). u ∷ v) (row_made 1 eb ey) (ap (λ (u : List ℕ). u ∷ []) (row_made 2 ec ez)))
