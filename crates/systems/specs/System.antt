-- The equations for the lost data units ks, from the parity units is, one for each: padded with the identity to three.
use Rattle.std.specs.Prelude.{◌≡◌, List, [], ◌∷◌, ℕ, ◌<◌, ltb, eqb, length, get_or}
use Rattle.std.proofs.Common.{ap, ◌∙◌, arith, lit<}
use Rattle.field.specs.Byte.{◌⊕◌, mul, inv}
use Rattle.field.specs.Laws.{mul-one, mul-inv}
use Rattle.field.proofs.RingLaws.{ring}
use Rattle.lists.specs.Pick.{pick, both}
use Rattle.systems.specs.Coef.{coef, coef-lt}
use Rattle.systems.specs.Cramer.{cof, det, inverse}

-- entry (r, c) of d equations: the coefficient of the lost unit ks[c] in the parity unit is[r], or the identity's
unfoldable pub system_entry : List ℕ → List ℕ → ℕ → ℕ → ℕ → ℕ
system_entry is ks d r c = pick (both (ltb r d) (ltb c d)) (coef (get_or is r 0) (get_or ks c 0)) (pick (eqb r c) 1 0)

abbrev pub sys : List ℕ → List ℕ → ℕ → ℕ → ℕ
sys is ks = system_entry is ks (length ks)

-- a list that rises, below n
pub record Rising (l : List ℕ) (n : ℕ) : Type 0 where
  pub bound : (c : ℕ) → c < length l → get_or l c 0 < n
  pub rises : (c e : ℕ) → c < e → e < length l → get_or l c 0 < get_or l e 0

-- the determinant of one and of two equations, padded
pub pad_1 : (p : ℕ) → p < 256
    → mul p (mul 1 1 ⊕ mul 0 0) ⊕ (mul 0 (mul 0 1 ⊕ mul 0 0) ⊕ mul 0 (mul 0 0 ⊕ mul 1 0)) ≡ p
pad_1 p h = simp (mul-one p h, mul-one 1 (lit< tt), ring)

pub pad_2 : (p q r s : ℕ) → p < 256 → q < 256 → r < 256 → s < 256
    → mul p (mul s 1 ⊕ mul 0 0) ⊕ (mul q (mul r 1 ⊕ mul 0 0) ⊕ mul 0 (mul r 0 ⊕ mul s 0)) ≡ mul p s ⊕ mul q r
pad_2 p q r s hp hq hr hs = simp (mul-one r hr, mul-one s hs, ring)

-- one equation, with 1 for its coefficient: so is the inverse
pub inverse-one : (is ks : List ℕ) → length ks ≡ 1 → coef (get_or is 0 0) (get_or ks 0 0) ≡ 1 → inverse (sys is ks) 0 0 ≡ 1
unfolding system_entry inverse det cof
inverse-one is [] h e = absurd (omega arith)
inverse-one is (a ∷ []) h e =
    ap (λ (x : ℕ). mul (mul 1 1 ⊕ mul 0 0) (inv x)) (pad_1 (coef (get_or is 0 0) a) (coef-lt (get_or is 0 0) a) ∙ e)
    ∙ ap (λ (x : ℕ). mul x (inv 1)) one ∙ mul-inv 1 (lit< tt) (lit< tt)
  where
    one : mul 1 1 ⊕ mul 0 0 ≡ 1
    one = simp (mul-one 1 (lit< tt), ring)
inverse-one is (a ∷ b ∷ ks) h e = absurd (omega arith)
