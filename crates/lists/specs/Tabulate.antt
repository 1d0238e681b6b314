-- Lists given by what stands at each index.
use Rattle.std.specs.Prelude.{◌≡◌, Bool, true, List, [], ◌∷◌, length, get_or, set, take, drop, eqb}
use Rattle.std.proofs.Math.Path.{refl, ap}
use Rattle.std.proofs.Common.{sym, subst, ◌∙◌, not-suc-le-zero, le_of_suc-le-suc, arith, length-drop, ext_get_or, get_or-set_same, get_or-set_other, length-take-le, get_or-take, get_or-drop, eqb-true}
use Prim.Native.Nat.{ℕ, zero, suc, ◌+◌, ◌≤◌, ◌<◌}
use Rattle.lists.specs.Pick.{both, both_true, equal_or_not}

module _ {A : Type 0} where
  -- n elements, f i at each index i
  unfoldable pub tabulate : ℕ → (ℕ → A) → List A
  tabulate zero f = []
  tabulate (suc n) f = f zero ∷ tabulate n (λ i. f (suc i))

  pub length-tabulate : (n : ℕ) (f : ℕ → A) → length (tabulate n f) ≡ n
  unfolding tabulate
  length-tabulate zero f = refl
  length-tabulate (suc n) f = ap suc (length-tabulate n (λ i. f (suc i)))

  pub get_d_tabulate : (n : ℕ) (f : ℕ → A) (i : ℕ) (d : A) → i < n → get_or (tabulate n f) i d ≡ f i
  unfolding tabulate
  get_d_tabulate zero f i d h = absurd (not-suc-le-zero h)
  get_d_tabulate (suc n) f zero d h = refl
  get_d_tabulate (suc n) f (suc i) d h = get_d_tabulate n (λ j. f (suc j)) i d (le_of_suc-le-suc h)

  -- a list that has f i at each index below its length n is that table
  pub tabulated : (n : ℕ) (f : ℕ → A) (l : List A) (d : A) → length l ≡ n → ((i : ℕ) → i < n → get_or l i d ≡ f i) → l ≡ tabulate n f
  tabulated n f l d e h =
      ext_get_or d l (tabulate n f) (e ∙ sym (length-tabulate n f))
      (λ i b. let b' : i < n = subst (λ (m : ℕ). i < m) e b in h i b' ∙ sym (get_d_tabulate n f i d b'))

  -- two rules that agree below n give one table
  pub tabulate_ext : (d : A) (n : ℕ) (f g : ℕ → A) → ((i : ℕ) → i < n → f i ≡ g i) → tabulate n f ≡ tabulate n g
  tabulate_ext d n f g h = tabulated n g (tabulate n f) d (length-tabulate n f) (λ i b. get_d_tabulate n f i d b ∙ h i b)

  -- a loop that stores f i at index i: what is right below i is right below i + 1 after the store
  pub fill_step : (f : ℕ → A) (l : List A) (i : ℕ) (v d : A) → i < length l → v ≡ f i → ((k : ℕ) → k < i → get_or l k d ≡ f k)
      → (k : ℕ) → k < i + 1 → get_or (set l i v) k d ≡ f k
  fill_step f l i v d h e below k b =
      equal_or_not k i
      (λ (q : k ≡ i). ap (λ (j : ℕ). get_or (set l i v) j d) q ∙ get_or-set_same l i v d h ∙ e ∙ ap f (sym q))
      (λ (n : k ≡ i → ⊥). get_or-set_other l i k v d n ∙ below k (omega arith))

-- n zeros
abbrev pub zeros : ℕ → List ℕ
zeros n = tabulate n (λ i. 0)

-- a list that is written out, of zeros alone: a test that antt computes
abbrev pub all_zero : List ℕ → Bool
all_zero [] = true
all_zero (x ∷ l) = both (eqb x 0) (all_zero l)

pub zero-at : (l : List ℕ) → all_zero l ≡ true → (i : ℕ) → get_or l i 0 ≡ 0
zero-at [] t i = refl
zero-at (x ∷ l) t zero = eqb-true x 0 (both_true (eqb x 0) (all_zero l) t).0
zero-at (x ∷ l) t (suc i) = zero-at l (both_true (eqb x 0) (all_zero l) t).1 i

-- entry t of a list of numbers
abbrev pub at : List ℕ → ℕ → ℕ
at l t = get_or l t 0

-- a part of a list: k elements from a on
pub part_tabulated : (k a : ℕ) (l : List ℕ) → a + k ≤ length l → take k (drop a l) ≡ tabulate k (λ i. at l (a + i))
part_tabulated k a l h =
    tabulated k (λ i. at l (a + i)) (take k (drop a l)) 0 (length-take-le k (drop a l) (let e = length-drop a l in omega (arith, e)))
    (λ i b. get_or-take k (drop a l) i 0 b ∙ get_or-drop a l i 0)
