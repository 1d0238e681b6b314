-- The greatest common divisor by Euclid's rule, the least common multiple, and their laws.
use Rattle.std.specs.Prelude.{◌≡◌, refl, ℕ, zero, suc, ◌*◌, ◌-◌, ◌/◌, ◌%◌, ◌≤◌, ◌<◌}
use Rattle.std.proofs.Common.{sym, ap, ◌∙◌, subst, inl, inr, le_refl, not-suc-le-zero, mod-lt, zero-lt-suc, mul-zero, mul_comm, mul_assoc, mul-pos, eq-zero-or-pos, mul_right_comm, arith}
use Rattle.std.specs.Int.{◌∣◌}
use Rattle.std.proofs.Math.Nat.{dvd_refl, dvd-zero, dvd-mod_iff, div-mul_cancel, mul-dvd-mul_left, mul-dvd-mul_right, dvd_of_mul-dvd-mul_right, pos_of_dvd_of_pos}
use Rattle.std.proofs.Math.Nat.{mod_def, mul-sub, mul-div-mul_left, mul-div_assoc}

-- Euclid's rule with a bound on its steps
unfoldable pub gcd_in : ℕ → ℕ → ℕ → ℕ
gcd_in zero a b = a
gcd_in (suc f) a zero = a
gcd_in (suc f) a (suc b) = gcd_in f (suc b) (a % suc b)

-- b steps are enough, since the remainder falls
unfoldable pub gcd : ℕ → ℕ → ℕ
gcd a b = gcd_in b a b

-- the bound does not matter once it is large enough
gcd_in-any : (f g a b : ℕ) → b ≤ f → b ≤ g → gcd_in f a b ≡ gcd_in g a b
unfolding gcd_in
gcd_in-any zero zero a b h k = refl
gcd_in-any zero (suc g) a zero h k = refl
gcd_in-any zero (suc g) a (suc b) h k = absurd (not-suc-le-zero h)
gcd_in-any (suc f) zero a zero h k = refl
gcd_in-any (suc f) zero a (suc b) h k = absurd (not-suc-le-zero k)
gcd_in-any (suc f) (suc g) a zero h k = refl
gcd_in-any (suc f) (suc g) a (suc b) h k = gcd_in-any f g (suc b) (a % suc b) (omega (arith, mod-lt a (zero-lt-suc b))) (omega (arith, mod-lt a (zero-lt-suc b)))

pub gcd-zero : (a : ℕ) → gcd a 0 ≡ a
unfolding gcd gcd_in
gcd-zero a = refl

-- one step
pub gcd-step : (a b : ℕ) → 0 < b → gcd a b ≡ gcd b (a % b)
unfolding gcd gcd_in
gcd-step a zero h = absurd (not-suc-le-zero h)
gcd-step a (suc b) h = gcd_in-any b (a % suc b) (suc b) (a % suc b) (omega (arith, mod-lt a (zero-lt-suc b))) (le_refl (a % suc b))

-- a property of pairs that Euclid's step carries holds of all pairs
pub gcd_ind : (Q : ℕ → ℕ → Type 0) → ((a : ℕ) → Q a 0) → ((a b : ℕ) → 0 < b → Q b (a % b) → Q a b) → (a b : ℕ) → Q a b
gcd_ind Q base step a b = go b a b (le_refl b)
  where
    go : (f a b : ℕ) → b ≤ f → Q a b
    go zero a zero h = base a
    go zero a (suc b) h = absurd (not-suc-le-zero h)
    go (suc f) a zero h = base a
    go (suc f) a (suc b) h = step a (suc b) (zero-lt-suc b) (go f (suc b) (a % suc b) (omega (arith, mod-lt a (zero-lt-suc b))))

-- it divides both
pub gcd_dvd : (a b : ℕ) → (gcd a b ∣ a) × (gcd a b ∣ b)
gcd_dvd = gcd_ind (λ (a b : ℕ). (gcd a b ∣ a) × (gcd a b ∣ b))
    (λ a. subst (λ (d : ℕ). (d ∣ a) × (d ∣ 0)) (sym (gcd-zero a)) (dvd_refl a, dvd-zero a))
    (λ a b h q. subst (λ (d : ℕ). (d ∣ a) × (d ∣ b)) (sym (gcd-step a b h)) ((dvd-mod_iff (gcd b (a % b)) {m = a} q.0).0 q.1, q.0))

-- and what divides both divides it
pub dvd_gcd : (d a b : ℕ) → d ∣ a → d ∣ b → d ∣ gcd a b
dvd_gcd d = gcd_ind (λ (a b : ℕ). d ∣ a → d ∣ b → d ∣ gcd a b)
    (λ a p q. subst (λ (x : ℕ). d ∣ x) (sym (gcd-zero a)) p)
    (λ a b h r p q. subst (λ (x : ℕ). d ∣ x) (sym (gcd-step a b h)) (r q ((dvd-mod_iff d {m = a} q).1 p)))

pub gcd_pos : (a b : ℕ) → 0 < a → 0 < gcd a b
gcd_pos a b h = pos_of_dvd_of_pos (gcd_dvd a b).0 h

-- m * a leaves m times what a leaves
mul-mod-mul : (m a b : ℕ) → 0 < m → (m * a) % (m * b) ≡ m * (a % b)
mul-mod-mul m a b h =
    mod_def (m * a) (m * b)
    ∙ ap (λ (q : ℕ). m * a - m * b * q) (mul-div-mul_left a b h)
    ∙ ap (λ (y : ℕ). m * a - y) (mul_assoc m b (a / b))
    ∙ sym (mul-sub m a (b * (a / b)))
    ∙ ap (λ (y : ℕ). m * y) (sym (mod_def a b))

-- a factor of both comes out
pub gcd-mul : (m a b : ℕ) → 0 < m → gcd (m * a) (m * b) ≡ m * gcd a b
gcd-mul m a b hm = gcd_ind (λ (a b : ℕ). gcd (m * a) (m * b) ≡ m * gcd a b)
    (λ a. ap (λ (x : ℕ). gcd (m * a) x) (mul-zero m) ∙ gcd-zero (m * a) ∙ ap (λ (x : ℕ). m * x) (sym (gcd-zero a)))
    (λ a b h q. gcd-step (m * a) (m * b) (mul-pos hm h) ∙ ap (λ (x : ℕ). gcd (m * b) x) (mul-mod-mul m a b hm) ∙ q ∙ ap (λ (x : ℕ). m * x) (sym (gcd-step a b h)))
    a b

-- the least common multiple
unfoldable pub lcm : ℕ → ℕ → ℕ
lcm a b = a / gcd a b * b

-- by its quotients
pub lcm_right : (a b : ℕ) → a / gcd a b * b ≡ lcm a b
unfolding lcm
lcm_right a b = refl

pub lcm-left : (a b : ℕ) → 0 < a → a * (b / gcd a b) ≡ lcm a b
unfolding lcm
lcm-left a b h =
    let g : ℕ = gcd a b in
    sym (mul-div_assoc (gcd a b) a (gcd_dvd a b).1) ∙ ap (λ (x : ℕ). x / gcd a b) (mul_comm a b) ∙ mul-div_assoc (gcd a b) b (gcd_dvd a b).0 ∙ mul_comm b (a / gcd a b)

-- what both divide it divides
pub lcm_dvd : (a b m : ℕ) → 0 < a → 0 < b → a ∣ m → b ∣ m → lcm a b ∣ m
unfolding lcm
lcm_dvd a b m ha hb p q = elim (eq-zero-or-pos m) [ inl e ↦ subst (λ (x : ℕ). lcm a b ∣ x) (sym e) (dvd-zero (lcm a b)) | inr hm ↦ cancelled hm ]
  where
    -- a * b divides m * a and m * b, so m * gcd a b
    both : 0 < m → a * b ∣ m * gcd a b
    both hm = subst (λ (x : ℕ). a * b ∣ x) (gcd-mul m a b hm) (dvd_gcd (a * b) (m * a) (m * b) (subst (λ (x : ℕ). a * b ∣ x) (mul_comm a m) (mul-dvd-mul_left b a q)) (mul-dvd-mul_right a p b))

    is : lcm a b * gcd a b ≡ a * b
    is = mul_right_comm (a / gcd a b) b (gcd a b) ∙ ap (λ (x : ℕ). x * b) (div-mul_cancel (gcd a b) (gcd_dvd a b).0)

    cancelled : 0 < m → lcm a b ∣ m
    cancelled hm = dvd_of_mul-dvd-mul_right (lcm a b) (gcd_pos a b ha) (subst (λ (x : ℕ). x ∣ m * gcd a b) (sym is) (both hm))
