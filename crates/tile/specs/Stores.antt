-- The inverse by stores: entry (a at k) of b is k, for each k below t, and then below t + 1; at 64 the list is the inverse.
use Rattle.std.specs.Prelude.{◌≡◌, ℕ, ◌+◌, ◌<◌, ◌≤◌, List, length, ◌≢◌, slice_set}
use Rattle.std.proofs.Common.{sym, ap, ◌∙◌, subst, le_refl, arith, get_or-set_same, get_or-set_other}
use Rattle.lists.specs.Pick.{equal_or_not}
use Rattle.lists.specs.Tabulate.{at, tabulated}
use Rattle.lists.specs.Bijection.{injective}
use Rattle.tile.specs.Permutation.{index_of, inverse_of}
use Rattle.tile.specs.Laws.{Permutes, index_undoes, at-inverse}

pub store_next : (a b : List ℕ) (t : ℕ) → Permutes 64 a → length b ≡ 64 → t < 64 → ((k : ℕ) → k < t → at b (at a k) ≡ k) → (k : ℕ) → k < t + 1 → at (slice_set b (at a t) t) (at a k) ≡ k
store_next a b t p lb ht inv k hk =
    equal_or_not k t
    (λ (e : k ≡ t).
    ap (λ (x : ℕ). at (slice_set b (at a t) t) (at a x)) e
    ∙ get_or-set_same b (at a t) t 0 (subst (λ (n : ℕ). at a t < n) (sym lb) (p.1.into t ht))
    ∙ sym e)
    (λ (ne : k ≡ t → ⊥).
    let lt : k < t = omega arith in
    get_or-set_other b (at a t) (at a k) t 0 (λ q. ne (injective p.1 k t (omega arith) ht q)) ∙ inv k lt)

pub stores_inverse : (a b : List ℕ) → Permutes 64 a → length a ≡ 64 → length b ≡ 64 → ((k : ℕ) → k < 64 → at b (at a k) ≡ k) → b ≡ inverse_of a
unfolding inverse_of
stores_inverse a b p la lb inv = tabulated 64 (index_of a) b 0 lb each
  where
    each : (v : ℕ) → v < 64 → at b v ≡ index_of a v
    each v h =
        ap (at b) (sym (p.1.forth v h))
        ∙ inv (p.0 v) (p.1.from v h)
        ∙ sym (index_undoes a p.0 (subst (λ (n : ℕ). 64 ≤ n) (sym la) (le_refl 64)) p.1 v h)

-- ---- one index, by a search

pub column-found : (a : List ℕ) → Permutes 64 a → length a ≡ 64 → (i t : ℕ) → i < 64 → t < 64 → at a i ≡ t → i ≡ at (inverse_of a) t
column-found a p la i t hi ht e =
    sym (p.1.back i hi) ∙ ap p.0 e
    ∙ sym (at-inverse a t ht ∙ index_undoes a p.0 (subst (λ (n : ℕ). 64 ≤ n) (sym la) (le_refl 64)) p.1 t ht)

-- every number below 64 stands somewhere
pub column_somewhere : (a : List ℕ) → Permutes 64 a → (t : ℕ) → t < 64 → ((k : ℕ) → k < 64 → at a k ≢ t) → ⊥
column_somewhere a p t h none = none (p.0 t) (p.1.from t h) (p.1.forth t h)
