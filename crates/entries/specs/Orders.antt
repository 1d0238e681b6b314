-- The order of the keys: all that the laws below use of it.
use Rattle.std.specs.Prelude.{◌≡◌, refl, ℕ, ◌<◌, Bool, true, false, not, ltb, eqb}
use Rattle.std.proofs.Common.{sym, ap, ◌∙◌, subst, arith, ltb-true, ltb-false, eqb-true, lt-ltb, le-ltb, eq-eqb, ne_eqb}
use Rattle.std.proofs.lemmas.Bool.{eqb-false}
use Rattle.lists.specs.Pick.{pick, both, clash}
use Rattle.entries.specs.declared.Wide.{Wide}
use Rattle.entries.specs.declared.Key.{Key}
use Rattle.entries.specs.Wide.{wide_lt, wide_eq}
use Rattle.entries.specs.WideOrder.{WideLt, wide_lt_of, of_wide_lt, wide_trans, wide_irrefl, not_wide_lt, wide_eq_of, wide_eq_refl, wide_more}
use Rattle.entries.specs.Key.{key_lt, key_eq, listable}

-- the order, said with numbers
pub data Lt (a b : Key) : Type 0 where
  by_device : a.device < b.device → Lt a b
  by_file : a.device ≡ b.device → WideLt a.file b.file → Lt a b

pub lt_of : (a b : Key) → key_lt a b ≡ true → Lt a b
unfolding key_lt
lt_of a b h = first (ltb a.device b.device) (ltb b.device a.device) refl refl h
  where
    first : (s t : Bool) → ltb a.device b.device ≡ s → ltb b.device a.device ≡ t
        → pick s true (pick t false (wide_lt a.file b.file)) ≡ true → Lt a b
    first true t p q e = by_device (ltb-true _ _ p)
    first false true p q e = let z : ◌≡◌ {A = ℕ} 0 1 = cc in absurd (omega arith)
    first false false p q e =
        by_file (omega (arith, ltb-false a.device b.device p, ltb-false b.device a.device q)) (wide_lt_of a.file b.file e)

pub of_lt : {a b : Key} → Lt a b → key_lt a b ≡ true
unfolding key_lt
of_lt (by_device l) = simp (lt-ltb _ _ l)
of_lt {a} {b} (by_file e l) = simp (le-ltb a.device b.device (omega arith), le-ltb b.device a.device (omega arith), of_wide_lt l)

pub lt_trans : {a b c : Key} → Lt a b → Lt b c → Lt a c
lt_trans (by_device p) (by_device q) = by_device (omega arith)
lt_trans (by_device p) (by_file e q) = by_device (omega arith)
lt_trans (by_file e p) (by_device q) = by_device (omega arith)
lt_trans (by_file e p) (by_file f q) = by_file (e ∙ f) (wide_trans p q)

pub lt_irrefl : {a : Key} → Lt a a → ⊥
lt_irrefl (by_device p) = omega arith
lt_irrefl (by_file e p) = wide_irrefl p

pub not-lt : (a b : Key) → (Lt a b → ⊥) → key_lt a b ≡ false
not-lt a b h = by_test (key_lt a b) refl
  where
    by_test : (t : Bool) → key_lt a b ≡ t → key_lt a b ≡ false
    by_test true e = absurd (h (lt_of a b e))
    by_test false e = e

-- equal keys
pub eq_of : (a b : Key) → key_eq a b ≡ true → a ≡ b
unfolding key_eq
eq_of a b h = fields (eqb a.device b.device) (wide_eq a.file b.file) refl refl h
  where
    fields : (s t : Bool) → eqb a.device b.device ≡ s → wide_eq a.file b.file ≡ t → both s t ≡ true → a ≡ b
    fields true true p q e =
        ap {B = Key} (λ (d : ℕ). record { device = d; file = a.file }) (eqb-true a.device b.device p)
        ∙ ap {B = Key} (λ (f : Wide). record { device = b.device; file = f }) (wide_eq_of a.file b.file q)
    fields true false p q e = let z : ◌≡◌ {A = ℕ} 0 1 = cc in absurd (omega arith)
    fields false t p q e = let z : ◌≡◌ {A = ℕ} 0 1 = cc in absurd (omega arith)

pub eq_refl : (a : Key) → key_eq a a ≡ true
unfolding key_eq
eq_refl a = simp (eq-eqb a.device a.device refl, wide_eq_refl a.file)

-- of two keys one is below, or they are equal
pub more_than : (a b : Key) → key_eq a b ≡ false → key_lt a b ≡ false → Lt b a
unfolding key_lt key_eq
more_than a b p q =
    go (ltb a.device b.device) (ltb b.device a.device) (wide_lt a.file b.file) (eqb a.device b.device) (wide_eq a.file
    b.file) refl refl refl refl refl p q
  where
    go : (s t u v w : Bool) → ltb a.device b.device ≡ s → ltb b.device a.device ≡ t → wide_lt a.file b.file ≡ u
        → eqb a.device b.device ≡ v → wide_eq a.file b.file ≡ w → both v w ≡ false → pick s true (pick t false u) ≡ false → Lt b a
    go true t u v w e₁ e₂ e₃ e₄ e₅ p q = let z : ◌≡◌ {A = ℕ} 0 1 = cc in absurd (omega arith)
    go false true u v w e₁ e₂ e₃ e₄ e₅ p q = by_device (ltb-true _ _ e₂)
    go false false true v w e₁ e₂ e₃ e₄ e₅ p q = let z : ◌≡◌ {A = ℕ} 0 1 = cc in absurd (omega arith)
    go false false false true true e₁ e₂ e₃ e₄ e₅ p q = let z : ◌≡◌ {A = ℕ} 0 1 = cc in absurd (omega arith)
    go false false false true false e₁ e₂ e₃ e₄ e₅ p q =
        by_file (sym (eqb-true _ _ e₄)) (wide_more a.file b.file e₅ e₃)
    go false false false false w e₁ e₂ e₃ e₄ e₅ p q =
        absurd (eqb-false a.device b.device e₄ (omega (arith, ltb-false a.device b.device e₁, ltb-false b.device a.device e₂)))

pub data Cmp (a b : Key) : Type 0 where
  below : key_lt a b ≡ true → key_eq a b ≡ false → key_lt b a ≡ false → Cmp a b
  equal : a ≡ b → key_lt a b ≡ false → key_eq a b ≡ true → key_lt b a ≡ false → Cmp a b
  above : key_lt a b ≡ false → key_eq a b ≡ false → key_lt b a ≡ true → Cmp a b

pub cmp : (a b : Key) → Cmp a b
cmp a b = by_tests (key_eq a b) (key_lt a b) refl refl
  where
    ne : (t : Bool) → key_eq a b ≡ t → (a ≡ b → ⊥) → key_eq a b ≡ false
    ne true e h = absurd (h (eq_of a b e))
    ne false e h = e

    by_tests : (s t : Bool) → key_eq a b ≡ s → key_lt a b ≡ t → Cmp a b
    by_tests true t p q =
        equal (eq_of a b p) (not-lt a b (λ l. lt_irrefl (subst (λ (z : Key). Lt z b) (eq_of a b p) l))) p (not-lt b a (λ l. lt_irrefl (subst (λ
        (z : Key). Lt b z) (eq_of a b p) l)))
    by_tests false true p q = below q p (not-lt b a (λ l. lt_irrefl (lt_trans (lt_of a b q) l)))
    by_tests false false p q = above q p (of_lt (more_than a b p q))

pub lt_ne : (a b : Key) → key_lt a b ≡ true → key_eq a b ≡ false
lt_ne a b h = by_cmp (cmp a b)
  where
    by_cmp : Cmp a b → key_eq a b ≡ false
    by_cmp (below p q s) = q
    by_cmp (equal e p q s) = clash (key_lt a b) h p
    by_cmp (above p q s) = q

pub gt_ne : (a b : Key) → key_lt b a ≡ true → key_eq a b ≡ false
gt_ne a b h = by_cmp (cmp a b)
  where
    by_cmp : Cmp a b → key_eq a b ≡ false
    by_cmp (below p q s) = q
    by_cmp (equal e p q s) = clash (key_lt b a) h s
    by_cmp (above p q s) = q

-- keys of which neither is below the other are equal
pub neither : (a b : Key) → key_lt a b ≡ false → not (key_lt b a) ≡ key_eq a b
neither a b h = by_cmp (cmp a b)
  where
    by_cmp : Cmp a b → not (key_lt b a) ≡ key_eq a b
    by_cmp (below p q s) = clash (key_lt a b) p h
    by_cmp (equal e p q s) = ap not s ∙ sym q
    by_cmp (above p q s) = ap not s ∙ sym q

-- k is a, or below it
pub data Le (k a : Key) : Type 0 where
  same : k ≡ a → Le k a
  less : Lt k a → Le k a

pub le-lt : {k a b : Key} → Le k a → Lt a b → Lt k b
le-lt {b} (same e) l = subst (λ (z : Key). Lt z b) (sym e) l
le-lt (less m) l = lt_trans m l

-- ---- a listing from k on
pub lt_no : {k a : Key} → Lt a k → listable k a ≡ false
unfolding listable
lt_no {k} {a} (by_device l) = simp (ne_eqb a.device k.device (λ e. omega (arith, e)))
lt_no {k} {a} (by_file e l) = simp (eq-eqb a.device k.device e, of_wide_lt l)

pub far_no : (k a : Key) → k.device < a.device → listable k a ≡ false
unfolding listable
far_no k a l = simp (ne_eqb a.device k.device (λ e. omega (arith, e)))

pub far_on : (k : Key) {a b : Key} → k.device < a.device → Lt a b → k.device < b.device
far_on k l (by_device m) = omega arith
far_on k l (by_file e m) = omega arith

-- a key that is not below k is listed, or is of a later device
pub data Reach (k a : Key) : Type 0 where
  near : listable k a ≡ true → Reach k a
  far : k.device < a.device → Reach k a

pub reach : {k a : Key} → Le k a → Reach k a
unfolding listable
reach {k} {a} (same e) = near (simp (eq-eqb a.device k.device (ap (λ (z : Key). z.device) (sym e)), not_wide_lt a.file k.file at))
  where
    at : WideLt a.file k.file → ⊥
    at l = wide_irrefl (subst (λ (z : Key). WideLt a.file z.file) e l)
reach {k} {a} (less (by_device l)) = far l
reach {k} {a} (less (by_file e l)) =
    near (simp (eq-eqb a.device k.device (sym e), not_wide_lt a.file k.file (λ m. wide_irrefl (wide_trans l m))))
