-- A list of failed targets is a function and a count: its first j entries are "the targets listed" so far.
use Rattle.std.specs.Prelude.{◌≡◌, refl, ◌⊎◌, Bool, true, false, ℕ, suc, ◌+◌, ◌≤◌, ◌<◌, eqb}
use Rattle.std.proofs.Common.{sym, ap, ◌∙◌, inl, inr, ⊎_elim, add-one, arith, eqb-true, eq-eqb, ne_eqb}
use Rattle.std.proofs.lemmas.Bool.{eqb-false}
use Rattle.lists.specs.Pick.{pick, pick-false, either_way}
use Rattle.lists.specs.Search.{any, any_none, any-true, any_false, any_same}

-- t is among the first j entries of e
unfoldable pub listed : (ℕ → ℕ) → ℕ → ℕ → Bool
listed e j t = any (λ i. eqb (e i) t) j

-- one entry more
pub listed_next : (e : ℕ → ℕ) (j t : ℕ) → listed e (j + 1) t ≡ pick (eqb (e j) t) true (listed e j t)
unfolding listed any
listed_next e j t = ap (any (λ i. eqb (e i) t)) (add-one j)

pub listed_suc : (e : ℕ → ℕ) (j t : ℕ) → listed e (suc j) t ≡ true → (e j ≡ t) ⊎ (listed e j t ≡ true)
unfolding listed any
listed_suc e j t h =
    ⊎_elim
    (λ (q : eqb (e j) t ≡ true). inl (eqb-true (e j) t q))
    (λ (q : eqb (e j) t ≡ false). inr (sym (pick-false (eqb (e j) t) true (any (λ i. eqb (e i) t) j) q) ∙ h))
    (either_way (eqb (e j) t))

pub unlisted : (e : ℕ → ℕ) (j t : ℕ) → listed e j t ≡ false → (i : ℕ) → i < j → e i ≡ t → ⊥
unfolding listed
unlisted e j t h i b = eqb-false (e i) t (any_none (λ i. eqb (e i) t) j h i b)

pub unlisted_of : (e : ℕ → ℕ) (j t : ℕ) → ((i : ℕ) → i < j → e i ≡ t → ⊥) → listed e j t ≡ false
unfolding listed
unlisted_of e j t h = any_false (λ i. eqb (e i) t) j (λ i b. ne_eqb (e i) t (h i b))

pub listed_at : (e : ℕ → ℕ) (j i : ℕ) → i < j → listed e j (e i) ≡ true
unfolding listed
listed_at e j i b = any-true (λ k. eqb (e k) (e i)) j i b (eq-eqb (e i) (e i) refl)

pub unlisted_sub : (e : ℕ → ℕ) (i j t : ℕ) → i ≤ j → listed e j t ≡ false → listed e i t ≡ false
unlisted_sub e i j t le h = unlisted_of e i t (λ l b. unlisted e j t h l (omega arith))

-- it depends on the first j entries alone
pub listed_same : (e e' : ℕ → ℕ) (j t : ℕ) → ((i : ℕ) → i < j → e i ≡ e' i) → listed e j t ≡ listed e' j t
unfolding listed
listed_same e e' j t h = any_same _ _ j (λ i b. ap (λ (x : ℕ). eqb x t) (h i b))
