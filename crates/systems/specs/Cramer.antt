-- Three equations in three unknowns over the field, by Cramer's rule: a system whose determinant is not 0 has exactly one solution. Smaller
-- systems are padded with the identity.
use Rattle.std.specs.Prelude.{◌≡◌, refl, ℕ, zero, suc, ◌<◌}
use Rattle.std.proofs.Common.{sym, ap, ◌∙◌, le_of_suc-le-suc, not-suc-le-zero, lit<}
use Rattle.std.proofs.Math.Path.{ap₂}
use Rattle.field.specs.Byte.{◌⊕◌, mul, inv}
use Rattle.field.specs.Laws.{mul-inv, mul-one}
use Rattle.field.proofs.Laws.{mul-lt, mul_comm, mul_assoc}
use Rattle.field.specs.Ring.{⊕-lt}
use Rattle.field.proofs.RingLaws.{ring}
use Rattle.field.specs.Sum.{sum3}

-- the two other indices of three
abbrev pub lo : ℕ → ℕ
lo zero = 1
lo (suc n) = 0

abbrev pub hi : ℕ → ℕ
hi zero = 2
hi (suc zero) = 2
hi (suc (suc n)) = 1

-- the determinant of what is left without row r and column c; signs do not matter, since x + x = 0
unfoldable pub cof : (ℕ → ℕ → ℕ) → ℕ → ℕ → ℕ
cof m r c = mul (m (lo r) (lo c)) (m (hi r) (hi c)) ⊕ mul (m (lo r) (hi c)) (m (hi r) (lo c))

unfoldable pub det : (ℕ → ℕ → ℕ) → ℕ
det m = sum3 (λ c. mul (m 0 c) (cof m 0 c))

-- row r of m times x
unfoldable pub row : (ℕ → ℕ → ℕ) → (ℕ → ℕ) → ℕ → ℕ
row m x r = sum3 (λ c. mul (m r c) (x c))

-- the unknown c, times the determinant
unfoldable pub num : (ℕ → ℕ → ℕ) → (ℕ → ℕ) → ℕ → ℕ
num m y c = sum3 (λ r. mul (cof m r c) (y r))

-- a rule at 0, 1 and 2 holds below 3
pub three : (P : ℕ → Type 0) → P 0 → P 1 → P 2 → (k : ℕ) → k < 3 → P k
three P a b c zero h = a
three P a b c (suc zero) h = b
three P a b c (suc (suc zero)) h = c
three P a b c (suc (suc (suc k))) h = absurd (not-suc-le-zero (le_of_suc-le-suc (le_of_suc-le-suc (le_of_suc-le-suc h))))

pub lo_else : (r : ℕ) → (r ≡ 0 → ⊥) → 0 ≡ lo r
lo_else zero n = absurd (n refl)
lo_else (suc r) n = refl

pub hi_else : (r : ℕ) → r < 3 → (r ≡ 2 → ⊥) → 2 ≡ hi r
hi_else = three (λ (r : ℕ). (r ≡ 2 → ⊥) → 2 ≡ hi r) (λ n. refl) (λ n. refl) (λ n. absurd (n refl))

-- the rule written out, for each unknown and for each equation: `simp` multiplies out, and what occurs twice goes
module _ (a b c d e f g h i x y z : ℕ) where
  left0 : mul (mul e i ⊕ mul f h) (mul a x ⊕ (mul b y ⊕ mul c z))
      ⊕ (mul (mul b i ⊕ mul c h) (mul d x ⊕ (mul e y ⊕ mul f z)) ⊕ mul (mul b f ⊕ mul c e) (mul g x ⊕ (mul h y ⊕ mul i z)))
      ≡ mul (mul a (mul e i ⊕ mul f h) ⊕ (mul b (mul d i ⊕ mul f g) ⊕ mul c (mul d h ⊕ mul e g))) x
  left0 = simp ring

  left1 : mul (mul d i ⊕ mul f g) (mul a x ⊕ (mul b y ⊕ mul c z))
      ⊕ (mul (mul a i ⊕ mul c g) (mul d x ⊕ (mul e y ⊕ mul f z)) ⊕ mul (mul a f ⊕ mul c d) (mul g x ⊕ (mul h y ⊕ mul i z)))
      ≡ mul (mul a (mul e i ⊕ mul f h) ⊕ (mul b (mul d i ⊕ mul f g) ⊕ mul c (mul d h ⊕ mul e g))) y
  left1 = simp ring

  left2 : mul (mul d h ⊕ mul e g) (mul a x ⊕ (mul b y ⊕ mul c z))
      ⊕ (mul (mul a h ⊕ mul b g) (mul d x ⊕ (mul e y ⊕ mul f z)) ⊕ mul (mul a e ⊕ mul b d) (mul g x ⊕ (mul h y ⊕ mul i z)))
      ≡ mul (mul a (mul e i ⊕ mul f h) ⊕ (mul b (mul d i ⊕ mul f g) ⊕ mul c (mul d h ⊕ mul e g))) z
  left2 = simp ring

  right0 : mul a (mul (mul e i ⊕ mul f h) x ⊕ (mul (mul b i ⊕ mul c h) y ⊕ mul (mul b f ⊕ mul c e) z))
      ⊕ (mul b (mul (mul d i ⊕ mul f g) x ⊕ (mul (mul a i ⊕ mul c g) y ⊕ mul (mul a f ⊕ mul c d) z))
      ⊕ mul c (mul (mul d h ⊕ mul e g) x ⊕ (mul (mul a h ⊕ mul b g) y ⊕ mul (mul a e ⊕ mul b d) z)))
      ≡ mul (mul a (mul e i ⊕ mul f h) ⊕ (mul b (mul d i ⊕ mul f g) ⊕ mul c (mul d h ⊕ mul e g))) x
  right0 = simp ring

  right1 : mul d (mul (mul e i ⊕ mul f h) x ⊕ (mul (mul b i ⊕ mul c h) y ⊕ mul (mul b f ⊕ mul c e) z))
      ⊕ (mul e (mul (mul d i ⊕ mul f g) x ⊕ (mul (mul a i ⊕ mul c g) y ⊕ mul (mul a f ⊕ mul c d) z))
      ⊕ mul f (mul (mul d h ⊕ mul e g) x ⊕ (mul (mul a h ⊕ mul b g) y ⊕ mul (mul a e ⊕ mul b d) z)))
      ≡ mul (mul a (mul e i ⊕ mul f h) ⊕ (mul b (mul d i ⊕ mul f g) ⊕ mul c (mul d h ⊕ mul e g))) y
  right1 = simp ring

  right2 : mul g (mul (mul e i ⊕ mul f h) x ⊕ (mul (mul b i ⊕ mul c h) y ⊕ mul (mul b f ⊕ mul c e) z))
      ⊕ (mul h (mul (mul d i ⊕ mul f g) x ⊕ (mul (mul a i ⊕ mul c g) y ⊕ mul (mul a f ⊕ mul c d) z))
      ⊕ mul i (mul (mul d h ⊕ mul e g) x ⊕ (mul (mul a h ⊕ mul b g) y ⊕ mul (mul a e ⊕ mul b d) z)))
      ≡ mul (mul a (mul e i ⊕ mul f h) ⊕ (mul b (mul d i ⊕ mul f g) ⊕ mul c (mul d h ⊕ mul e g))) z
  right2 = simp ring

module _ (m : ℕ → ℕ → ℕ) (x : ℕ → ℕ) where
  pub num-row : (c : ℕ) → c < 3 → num m (row m x) c ≡ mul (det m) (x c)
  unfolding num row det cof
  num-row =
      three (λ (c : ℕ). num m (row m x) c ≡ mul (det m) (x c))
      (left0 (m 0 0) (m 0 1) (m 0 2) (m 1 0) (m 1 1) (m 1 2) (m 2 0) (m 2 1) (m 2 2) (x 0) (x 1) (x 2))
      (left1 (m 0 0) (m 0 1) (m 0 2) (m 1 0) (m 1 1) (m 1 2) (m 2 0) (m 2 1) (m 2 2) (x 0) (x 1) (x 2))
      (left2 (m 0 0) (m 0 1) (m 0 2) (m 1 0) (m 1 1) (m 1 2) (m 2 0) (m 2 1) (m 2 2) (x 0) (x 1) (x 2))

  pub row-num : (r : ℕ) → r < 3 → row m (num m x) r ≡ mul (det m) (x r)
  unfolding num row det cof
  row-num =
      three (λ (r : ℕ). row m (num m x) r ≡ mul (det m) (x r))
      (right0 (m 0 0) (m 0 1) (m 0 2) (m 1 0) (m 1 1) (m 1 2) (m 2 0) (m 2 1) (m 2 2) (x 0) (x 1) (x 2))
      (right1 (m 0 0) (m 0 1) (m 0 2) (m 1 0) (m 1 1) (m 1 2) (m 2 0) (m 2 1) (m 2 2) (x 0) (x 1) (x 2))
      (right2 (m 0 0) (m 0 1) (m 0 2) (m 1 0) (m 1 1) (m 1 2) (m 2 0) (m 2 1) (m 2 2) (x 0) (x 1) (x 2))

-- the inverse: entry (c, r) is what equation r counts for in the unknown c
unfoldable pub inverse : (ℕ → ℕ → ℕ) → ℕ → ℕ → ℕ
inverse m c r = mul (cof m r c) (inv (det m))

-- the solution: the inverse times the right side
unfoldable pub sol : (ℕ → ℕ → ℕ) → (ℕ → ℕ) → ℕ → ℕ
sol m y c = row (inverse m) y c

spread : (a b c i x y z : ℕ) → mul (mul a i) x ⊕ (mul (mul b i) y ⊕ mul (mul c i) z) ≡ mul (mul a x ⊕ (mul b y ⊕ mul c z)) i
spread a b c i x y z = simp ring

sol-num : (m : ℕ → ℕ → ℕ) (y : ℕ → ℕ) (c : ℕ) → sol m y c ≡ mul (num m y c) (inv (det m))
unfolding sol row inverse num
sol-num m y c = spread (cof m 0 c) (cof m 1 c) (cof m 2 c) (inv (det m)) (y 0) (y 1) (y 2)

pub det-lt : (m : ℕ → ℕ → ℕ) → det m < 256
unfolding det
det-lt m =
    ⊕-lt _ _ (mul-lt (m 0 0) (cof m 0 0)) (⊕-lt _ _ (mul-lt (m 0 1) (cof m 0 1)) (mul-lt (m 0 2) (cof m 0 2)))

module _ (m : ℕ → ℕ → ℕ) (x y : ℕ → ℕ) where
  num_cong : ((r : ℕ) → r < 3 → x r ≡ y r) → (c : ℕ) → num m x c ≡ num m y c
  unfolding num
  num_cong e c =
      ap₂ ◌⊕◌ (ap (mul (cof m 0 c)) (e 0 (lit< tt)))
      (ap₂ ◌⊕◌ (ap (mul (cof m 1 c)) (e 1 (lit< tt))) (ap (mul (cof m 2 c)) (e 2 (lit< tt))))

-- what solves the equations is the solution
pub sol_unique : (m : ℕ → ℕ → ℕ) (x y : ℕ → ℕ) → 0 < det m → ((r : ℕ) → r < 3 → row m x r ≡ y r)
    → (c : ℕ) → c < 3 → x c < 256 → sol m y c ≡ x c
sol_unique m x y p e c h b =
    sol-num m y c
    ∙ ap (λ (u : ℕ). mul u (inv (det m))) (sym (num_cong m (row m x) y e c) ∙ num-row m x c h ∙ mul_comm (det m) (x c))
    ∙ mul_assoc (x c) (det m) (inv (det m)) ∙ ap (mul (x c)) (mul-inv (det m) (det-lt m) p) ∙ mul-one (x c) b

-- the solution solves them
factor : (a b c x y z d : ℕ) → mul a (mul x d) ⊕ (mul b (mul y d) ⊕ mul c (mul z d)) ≡ mul (mul a x ⊕ (mul b y ⊕ mul c z)) d
factor a b c x y z d = simp ring

pub sol_solves : (m : ℕ → ℕ → ℕ) (y : ℕ → ℕ) → 0 < det m → (r : ℕ) → r < 3 → y r < 256 → row m (sol m y) r ≡ y r
unfolding row
sol_solves m y p r h b =
    ap₂ ◌⊕◌ (ap (mul (m r 0)) (sol-num m y 0)) (ap₂ ◌⊕◌ (ap (mul (m r 1)) (sol-num m y 1)) (ap (mul (m r 2)) (sol-num m y 2)))
    ∙ factor (m r 0) (m r 1) (m r 2) (num m y 0) (num m y 1) (num m y 2) (inv (det m))
    ∙ ap (λ (u : ℕ). mul u (inv (det m))) (row-num m y r h ∙ mul_comm (det m) (y r))
    ∙ mul_assoc (y r) (det m) (inv (det m)) ∙ ap (mul (y r)) (mul-inv (det m) (det-lt m) p) ∙ mul-one (y r) b

pub sol-lt : (m : ℕ → ℕ → ℕ) (y : ℕ → ℕ) (c : ℕ) → sol m y c < 256
sol-lt m y c = rw (sol-num m y c) (mul-lt (num m y c) (inv (det m)))
