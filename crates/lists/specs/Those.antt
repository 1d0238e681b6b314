-- The numbers below n at which a test holds, as a list, lowest first.
use Rattle.std.specs.Prelude.{◌≡◌, Bool, true, false, List, [], ◌∷◌, ◌++◌, get_or}
use Rattle.std.proofs.Math.Path.{refl, sym, ap, subst⁻¹}
use Rattle.std.proofs.Common.{◌∙◌, le_of_suc-le-suc, not-suc-le-zero, eq-or-lt_of_le, add-zero, arith, length-append}
use Rattle.std.proofs.Math.Logic.{⊎_elim}
use Prim.Native.Nat.{ℕ, zero, suc, ◌+◌, ◌<◌, ◌≤◌}
use Rattle.std.proofs.Math.Nat.{le_trans, le-suc, le_refl}
use Rattle.std.proofs.Math.ListN.{length, get_or-append}
use Rattle.std.proofs.Math.Seq.{get_or-append_seam}
use Rattle.lists.specs.Pick.{pick, bit, clash}
use Rattle.lists.specs.Count.{count}

unfoldable pub those : (ℕ → Bool) → ℕ → List ℕ
those f zero = []
those f (suc n) = pick (f n) (those f n ++ n ∷ []) (those f n)

-- tests that agree below n
pub those_same : (f g : ℕ → Bool) (n : ℕ) → ((k : ℕ) → k < n → f k ≡ g k) → those f n ≡ those g n
unfolding those
those_same f g zero e = refl
those_same f g (suc n) e =
    let below = those_same f g n (λ k b. e k (omega arith)) in
    (λ i. pick (e n (le_refl (suc n)) i) (below i ++ n ∷ []) (below i))

-- ---- one number more at the end, where its test holds

abbrev grow : Bool → ℕ → List ℕ → List ℕ
grow x n l = pick x (l ++ n ∷ []) l

grow-length : (x : Bool) (n : ℕ) (l : List ℕ) → length (grow x n l) ≡ length l + bit x
grow-length true n l = length-append l (n ∷ [])
grow-length false n l = sym (add-zero (length l))

snoc_lt : (n : ℕ) (l : List ℕ) (c : ℕ) → c < length (l ++ n ∷ []) → c ≤ length l
snoc_lt n l c h = omega (arith, length-append l (n ∷ []))

snoc_last : (n : ℕ) (l : List ℕ) (c : ℕ) → c ≡ length l → get_or (l ++ n ∷ []) c 0 ≡ n
snoc_last n l c e = ap (λ (i : ℕ). get_or (l ++ n ∷ []) i 0) e ∙ get_or-append_seam l n [] 0

-- what holds of every entry, and of the new one with its index, holds of every entry after
grow_each : (P : ℕ → ℕ → Type 0) (x : Bool) (n : ℕ) (l : List ℕ) → ((c : ℕ) → c < length l → P c (get_or l c 0)) → (x ≡ true → P (length l) n)
    → (c : ℕ) → c < length (grow x n l) → P c (get_or (grow x n l) c 0)
grow_each P false n l ih q c h = ih c h
grow_each P true n l ih q c h =
    ⊎_elim (λ (e : c ≡ length l). subst⁻¹ (P c) (snoc_last n l c e) (subst⁻¹ (λ (i : ℕ). P i n) e (q refl)))
    (λ (k : c < length l). subst⁻¹ (P c) (get_or-append l (n ∷ []) 0 c k) (ih c k))
    (eq-or-lt_of_le (snoc_lt n l c h))

grow_asc : (x : Bool) (n : ℕ) (l : List ℕ) → ((c : ℕ) → c < length l → get_or l c 0 < n)
    → ((c e : ℕ) → c < e → e < length l → get_or l c 0 < get_or l e 0)
    → (c e : ℕ) → c < e → e < length (grow x n l) → get_or (grow x n l) c 0 < get_or (grow x n l) e 0
grow_asc false n l bd ih c e u h = ih c e u h
grow_asc true n l bd ih c e u h =
    ⊎_elim (λ q. let v : c < length l = omega arith in
    rw (snoc_last n l e q, get_or-append l (n ∷ []) 0 c v) (bd c v))
    (λ k. let v : c < length l = omega arith in
    rw (get_or-append l (n ∷ []) 0 c v, get_or-append l (n ∷ []) 0 e k) (ih c e u k)) (eq-or-lt_of_le (snoc_lt n l e h))

grow-old : (x : Bool) (n : ℕ) (l : List ℕ) (p j : ℕ) → p < length l → get_or l p 0 ≡ j → (p < length (grow x n l)) × (get_or (grow x n l) p 0 ≡ j)
grow-old false n l p j h e = (h, e)
grow-old true n l p j h e = (omega (arith, length-append l (n ∷ [])), get_or-append l (n ∷ []) 0 p h ∙ e)

grow-new : (x : Bool) (n : ℕ) (l : List ℕ) → x ≡ true → (length l < length (grow x n l)) × (get_or (grow x n l) (length l) 0 ≡ n)
grow-new false n l t = clash false t refl
grow-new true n l t = (omega (arith, length-append l (n ∷ [])), get_or-append_seam l n [] 0)

-- ---- the laws

module _ (f : ℕ → Bool) where
  pub length-those : (n : ℕ) → length (those f n) ≡ count f n
  unfolding those count
  length-those zero = refl
  length-those (suc n) = grow-length (f n) n (those f n) ∙ ap (λ (x : ℕ). x + bit (f n)) (length-those n)

  -- each is below n
  pub those-lt : (n c : ℕ) → c < length (those f n) → get_or (those f n) c 0 < n
  unfolding those
  those-lt zero c h = absurd (not-suc-le-zero h)
  those-lt (suc n) c h =
      grow_each (λ (c v : ℕ). v < suc n) (f n) n (those f n) (λ c b. le_trans (those-lt n c b) (le-suc n)) (λ t. le_refl (suc n)) c h

  -- they rise
  pub those_asc : (n c e : ℕ) → c < e → e < length (those f n) → get_or (those f n) c 0 < get_or (those f n) e 0
  unfolding those
  those_asc zero c e u h = absurd (not-suc-le-zero h)
  those_asc (suc n) c e u h = grow_asc (f n) n (those f n) (those-lt n) (those_asc n) c e u h

  -- the test holds at each
  pub those_hold : (n c : ℕ) → c < length (those f n) → f (get_or (those f n) c 0) ≡ true
  unfolding those
  those_hold zero c h = absurd (not-suc-le-zero h)
  those_hold (suc n) c h = grow_each (λ (c v : ℕ). f v ≡ true) (f n) n (those f n) (those_hold n) (λ t. t) c h

  -- each number that passes has its place: as many as pass below it
  pub those-place : (n j : ℕ) → j < n → f j ≡ true → (count f j < length (those f n)) × (get_or (those f n) (count f j) 0 ≡ j)
  unfolding those
  those-place zero j h t = absurd (not-suc-le-zero h)
  those-place (suc n) j h t =
      ⊎_elim (λ (e : j ≡ n). subst⁻¹ (λ (m : ℕ). (count f m < length (those f (suc n))) × (get_or (those f (suc n)) (count f m) 0 ≡ m)) e
      (subst⁻¹ (λ (m : ℕ). (m < length (grow (f n) n (those f n))) × (get_or (grow (f n) n (those f n)) m 0 ≡ n)) (sym (length-those n)) (grow-new (f n) n (those f n) (ap f (sym e) ∙ t))))
      (λ (l : j < n). let q = those-place n j l t in grow-old (f n) n (those f n) (count f j) j q.0 q.1) (eq-or-lt_of_le (le_of_suc-le-suc h))

  pub those_rank : (n c : ℕ) → c < length (those f n) → count f (get_or (those f n) c 0) ≡ c
  unfolding those
  those_rank zero c h = absurd (not-suc-le-zero h)
  those_rank (suc n) c h =
      grow_each (λ (c v : ℕ). count f v ≡ c) (f n) n (those f n) (those_rank n) (λ t. sym (length-those n)) c h
