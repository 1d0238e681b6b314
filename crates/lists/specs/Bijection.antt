-- A bijection of 0 .. n-1: a function with the function that undoes it.
use Rattle.std.specs.Prelude.{◌≡◌, refl, ◌≢◌, Bool, true, false, ℕ, zero, suc, ◌<◌, eqb}
use Rattle.std.proofs.Common.{sym, ap, ◌∙◌, subst, ⊎_elim, lt_irrefl, not-suc-le-zero, le_of_suc-le-suc, eq-or-lt_of_le, arith, eqb-true, eq-eqb, ne_eqb}
use Rattle.lists.specs.Pick.{pick, equal_or_not}

pub record Bijection (n : ℕ) (f g : ℕ → ℕ) : Type 0 where
  pub into : (t : ℕ) → t < n → f t < n
  pub from : (t : ℕ) → t < n → g t < n
  pub back : (t : ℕ) → t < n → g (f t) ≡ t
  pub forth : (t : ℕ) → t < n → f (g t) ≡ t

-- so it is injective
pub injective : {n : ℕ} {f g : ℕ → ℕ} → Bijection n f g → (s t : ℕ) → s < n → t < n → f s ≡ f t → s ≡ t
injective {g = g} b s t hs ht e = sym (b.back s hs) ∙ ap g e ∙ b.back t ht

-- i and j change places, and every other number stays
unfoldable pub flip : ℕ → ℕ → ℕ → ℕ
flip i j t = pick (eqb t i) j (pick (eqb t j) i t)

pub flip-left : (i j : ℕ) → flip i j i ≡ j
unfolding flip
flip-left i j = simp (eq-eqb i i refl)

pub flip_right : (i j : ℕ) → flip i j j ≡ i
unfolding flip
flip_right i j = at (eqb j i) refl
  where
    at : (b : Bool) → eqb j i ≡ b → pick b j (pick (eqb j j) i j) ≡ i
    at true e = eqb-true j i e
    at false e = simp (eq-eqb j j refl)

pub flip-other : (i j t : ℕ) → t ≢ i → t ≢ j → flip i j t ≡ t
unfolding flip
flip-other i j t p q = simp (ne_eqb t i p, ne_eqb t j q)

-- by cases: t is i, or t is j, or neither
by_cases : {A : Type 0} (i j t : ℕ) → (t ≡ i → A) → (t ≡ j → A) → (t ≢ i → t ≢ j → A) → A
by_cases i j t at_i at_j other = equal_or_not t i at_i (λ (p : t ≢ i). equal_or_not t j at_j (λ (q : t ≢ j). other p q))

pub flip-flip : (i j t : ℕ) → flip i j (flip i j t) ≡ t
flip-flip i j t =
    by_cases i j t
    (λ e. ap (λ (x : ℕ). flip i j (flip i j x)) e ∙ ap (flip i j) (flip-left i j) ∙ flip_right i j ∙ sym e)
    (λ e. ap (λ (x : ℕ). flip i j (flip i j x)) e ∙ ap (flip i j) (flip_right i j) ∙ flip-left i j ∙ sym e)
    (λ p q. ap (flip i j) (flip-other i j t p q) ∙ flip-other i j t p q)

pub flip-lt : {n : ℕ} (i j t : ℕ) → i < n → j < n → t < n → flip i j t < n
flip-lt {n} i j t hi hj ht =
    by_cases i j t
    (λ e. subst (λ (x : ℕ). x < n) (sym (ap (flip i j) e ∙ flip-left i j)) hj)
    (λ e. subst (λ (x : ℕ). x < n) (sym (ap (flip i j) e ∙ flip_right i j)) hi)
    (λ p q. subst (λ (x : ℕ). x < n) (sym (flip-other i j t p q)) ht)

-- a bijection after an exchange of two places
pub flipped : {n : ℕ} {f g : ℕ → ℕ} (i j : ℕ) → i < n → j < n → Bijection n f g → Bijection n (λ t. f (flip i j t)) (λ v. flip i j (g v))
flipped {n} {f} {g} i j hi hj b = record {
  into = λ t h. b.into (flip i j t) (flip-lt i j t hi hj h);
  from = λ t h. flip-lt i j (g t) hi hj (b.from t h);
  back = λ t h. ap (flip i j) (b.back (flip i j t) (flip-lt i j t hi hj h)) ∙ flip-flip i j t;
  forth = λ t h. ap f (flip-flip i j (g t)) ∙ b.forth t h;
}

-- the same function under another spelling
pub same : {n : ℕ} {f h g : ℕ → ℕ} → ((t : ℕ) → t < n → h t ≡ f t) → Bijection n f g → Bijection n h g
same {n} {f} {h} {g} e b = record {
  into = λ t p. subst (λ (x : ℕ). x < n) (sym (e t p)) (b.into t p);
  from = b.from;
  back = λ t p. ap g (e t p) ∙ b.back t p;
  forth = λ t p. e (g t) (b.from t p) ∙ b.forth t p;
}

-- another function that undoes it
pub undone : {n : ℕ} {f g k : ℕ → ℕ} → ((t : ℕ) → t < n → k t ≡ g t) → Bijection n f g → Bijection n f k
undone {n} {f} {g} {k} e b = record {
  into = b.into;
  from = λ t p. subst (λ (x : ℕ). x < n) (sym (e t p)) (b.from t p);
  back = λ t p. e (f t) (b.into t p) ∙ b.back t p;
  forth = λ t p. ap f (e t p) ∙ b.forth t p;
}

-- ---- a function of 0 .. n-1 into itself that another undoes is a bijection: n values that differ are all of them

-- with the last place i exchanged for n, every other place lies below n
flip_below : (n i j : ℕ) → i < suc n → j < suc n → j ≢ i → flip i n j < n
flip_below n i j hi hj d =
    equal_or_not j n (λ (e : j ≡ n). subst (λ (x : ℕ). x < n) (sym (ap (flip i n) e ∙ flip_right i n)) (below i hi (λ (q : i ≡ n). d (e ∙ sym q))))
    (λ (p : j ≢ n). subst (λ (x : ℕ). x < n) (sym (flip-other i n j d p)) (below j hj p))
  where
    below : (k : ℕ) → k < suc n → k ≢ n → k < n
    below k h p = ⊎_elim (λ (e : k ≡ n). absurd (p e)) (λ (l : k < n). l) (eq-or-lt_of_le (le_of_suc-le-suc h))

module _ (n : ℕ) (f g : ℕ → ℕ) (into : (t : ℕ) → t < suc n → f t < suc n) (back : (t : ℕ) → t < suc n → g (f t) ≡ t) where
  before_last : (t : ℕ) → t < n → flip (f n) n (f t) < n
  before_last t h =
      flip_below n (f n) (f t) (into n (omega arith)) (into t (omega arith))
      (λ (e : f t ≡ f n). lt_irrefl n (subst (λ (x : ℕ). x < n) (sym (back t (omega arith)) ∙ ap g e ∙ back n (omega arith)) h))

  one_more : ((u : ℕ) → u < n → (g (flip (f n) n u) < n) × (flip (f n) n (f (g (flip (f n) n u))) ≡ u)) → (v : ℕ) → v < suc n → (g v < suc n) × (f (g v) ≡ v)
  one_more fewer v h =
      equal_or_not v (f n)
      (λ (e : v ≡ f n). let q : g v ≡ n = ap g e ∙ back n (omega arith) in (omega (arith, q), ap f q ∙ sym e))
      (λ (d : v ≢ f n).
      let r = fewer (flip (f n) n v) (flip_below n (f n) v (into n (omega arith)) h d) in
      let e : g (flip (f n) n (flip (f n) n v)) ≡ g v = ap g (flip-flip (f n) n v) in
      (omega (arith, e, r.0), sym (flip-flip (f n) n (f (g v))) ∙ ap (λ (x : ℕ). flip (f n) n (flip (f n) n (f x))) (sym e) ∙ ap (flip (f n) n) r.1 ∙ flip-flip (f n) n v))

onto : (n : ℕ) (f g : ℕ → ℕ) → ((t : ℕ) → t < n → f t < n) → ((t : ℕ) → t < n → g (f t) ≡ t) → (v : ℕ) → v < n → (g v < n) × (f (g v) ≡ v)
onto zero f g into back v h = absurd (not-suc-le-zero h)
onto (suc n) f g into back v h =
    one_more n f g into back
    (onto n (λ t. flip (f n) n (f t)) (λ u. g (flip (f n) n u)) (before_last n f g into back)
    (λ t l. ap g (flip-flip (f n) n (f t)) ∙ back t (omega arith)))
    v h

pub undone_is_bijection : (n : ℕ) (f g : ℕ → ℕ) → ((t : ℕ) → t < n → f t < n) → ((t : ℕ) → t < n → g (f t) ≡ t) → Bijection n f g
undone_is_bijection n f g into back =
    record { into = into; from = λ v h. (onto n f g into back v h).0; back = back; forth = λ v h. (onto n f g into back v h).1 }
