-- A choice by a test, and tests joined.
use Rattle.std.specs.Prelude.{ℕ, ◌<◌, ◌≤◌, ◌≡◌, refl, ◌⊎◌, Bool, true, false, eqb, ltb}
use Rattle.std.proofs.Common.{suc-ne-zero, arith, ap, sym, ◌∙◌, inl, inr, ⊎_elim, eqb-true, eq-eqb, ne_eqb, ltb-true, ltb-false}
use Rattle.std.proofs.lemmas.Bool.{eqb-false}

-- a where the test holds, else b
abbrev pub pick : {A : Type 0} → Bool → A → A → A
pick true a b = a
pick false a b = b

-- both tests hold
abbrev pub both : Bool → Bool → Bool
both a b = pick a b false

-- 1 where the test holds, else 0
abbrev pub bit : Bool → ℕ
bit true = 1
bit false = 0

pub pick_true : {A : Type 0} (t : Bool) (a b : A) → t ≡ true → pick t a b ≡ a
pick_true t a b e = ap (λ (s : Bool). pick s a b) e

pub pick-false : {A : Type 0} (t : Bool) (a b : A) → t ≡ false → pick t a b ≡ b
pick-false t a b e = ap (λ (s : Bool). pick s a b) e

-- ---- cases that keep their equation

pub either_way : (t : Bool) → (t ≡ true) ⊎ (t ≡ false)
either_way true = inl refl
either_way false = inr refl

pub clash : {A : Type 0} (t : Bool) → t ≡ true → t ≡ false → A
clash t e f = let z : ◌≡◌ {A = ℕ} 0 1 = cc in absurd (suc-ne-zero 0 (sym z))

pub not-both_ways : (t : Bool) → (t ≡ true → ⊥) → t ≡ false
not-both_ways t f = ⊎_elim (λ (e : t ≡ true). absurd (f e)) (λ (e : t ≡ false). e) (either_way t)

pub below_or_not : {A : Type 0} (a b : ℕ) → (a < b → A) → (b ≤ a → A) → A
below_or_not a b f g =
    ⊎_elim (λ (t : ltb a b ≡ true). f (ltb-true a b t)) (λ (t : ltb a b ≡ false). g (ltb-false a b t)) (either_way (ltb a b))

pub equal_or_not : {A : Type 0} (a b : ℕ) → (a ≡ b → A) → ((a ≡ b → ⊥) → A) → A
equal_or_not a b f g =
    ⊎_elim (λ (t : eqb a b ≡ true). f (eqb-true a b t)) (λ (t : eqb a b ≡ false). g (eqb-false a b t)) (either_way (eqb a b))

-- ---- tests joined

pub both_true : (a b : Bool) → both a b ≡ true → (a ≡ true) × (b ≡ true)
both_true true b e = (refl, e)
both_true false b e = clash false e refl

pub both_hold : (a b : Bool) → a ≡ true → b ≡ true → both a b ≡ true
both_hold a b e f = pick_true a b false e ∙ f

-- two tests of equality that follow from each other
pub eqb_iff : (a b c d : ℕ) → (a ≡ b → c ≡ d) → (c ≡ d → a ≡ b) → eqb a b ≡ eqb c d
eqb_iff a b c d f g =
    equal_or_not c d (λ (e : c ≡ d). eq-eqb a b (g e) ∙ sym (eq-eqb c d e))
    (λ (n : c ≡ d → ⊥). ne_eqb a b (λ (q : a ≡ b). n (f q)) ∙ sym (ne_eqb c d n))

-- and two tests of any kind
pub same_truth : (a b : Bool) → (a ≡ true → b ≡ true) → (b ≡ true → a ≡ true) → a ≡ b
same_truth true b f g = sym (f refl)
same_truth false b f g = sym (not-both_ways b (λ t. clash false (g t) refl))

pub both_off : (t : Bool) → both t false ≡ false
both_off true = refl
both_off false = refl

-- ---- a bit

pub bit_le : (a : Bool) → bit a ≤ 1
bit_le true = omega arith
bit_le false = omega arith

pub bit_mono : (a b : Bool) → (a ≡ true → b ≡ true) → bit a ≤ bit b
bit_mono true b h = let e : bit b ≡ 1 = ap bit (h refl) in omega (arith, e)
bit_mono false b h = omega arith
