-- Laws of homes under a list: under at most K entries a free spare always exists, homes are different units, and none lies on a listed target.
-- That the entries differ or are targets plays no part.
use Rattle.std.specs.Prelude.{◌≡◌, ◌⊎◌, Bool}
use Rattle.std.proofs.Math.Path.{refl, ap, fun_ext}
use Rattle.std.proofs.Math.Logic.{inl, inr}
use Rattle.std.proofs.Math.Bool.{true, false, not}
use Prim.Native.Nat.{ℕ, zero, suc, ◌+◌, ◌<◌, ◌≤◌}
use native.Mathlib.Omega.{arith}
use borrow.Author.Tests.{ne_eqb}
use Rattle.std.proofs.Math.Dec.{eqb}
use Rattle.lists.specs.Pick.{pick, both, pick-false}
use Rattle.lists.specs.Search.{any}
use Rattle.homes.specs.Listed.{listed_same}
use Rattle.homes.specs.Homes.{free, move, homes}

-- ---- homes are units, and all different
pub record Apart (m W : ℕ) (h : ℕ → ℕ) : Type 0 where
  pub below : (c : ℕ) → c < m → h c < W
  pub differ : (c c' : ℕ) → c < m → c' < m → h c ≡ h c' → c ≡ c'

pub moved_off : (target : ℕ → ℕ) (m K : ℕ) (e : ℕ → ℕ) (i c : ℕ) → (target (homes target m K e i c) ≡ e i → ⊥) → homes target m K e (suc i) c ≡ homes target m K e i c
unfolding homes move
moved_off target m K e i c ne = pick-false (eqb (target (homes target m K e i c)) (e i)) _ _ (ne_eqb _ _ ne)

-- a home is the content's own unit, or a spare
pub own_or_spare : (target : ℕ → ℕ) (m K : ℕ) (e : ℕ → ℕ) (j c : ℕ) → (homes target m K e j c ≡ c) ⊎ (m ≤ homes target m K e j c)
unfolding homes move
own_or_spare target m K e zero c = inl refl
own_or_spare target m K e (suc j) c = by (eqb (target (homes target m K e j c)) (e j)) _ _ (own_or_spare target m K e j c)
  where
    by : (t : Bool) (s h : ℕ) → (h ≡ c) ⊎ (m ≤ h) → (pick t (m + s) h ≡ c) ⊎ (m ≤ pick t (m + s) h)
    by true s h before = inr (omega arith)
    by false s h before = before

-- ---- homes under the first j entries depend on those entries alone
pub free_same : (target : ℕ → ℕ) (m : ℕ) (e e' : ℕ → ℕ) (j : ℕ) (h : ℕ → ℕ) → ((i : ℕ) → i < j → e i ≡ e' i) → free target m e j h ≡ free target m e' j h
unfolding free
free_same target m e e' j h same =
    fun_ext (λ (i : ℕ). ap (λ (b : Bool). both (not (any (λ c. eqb (h c) (m + i)) m)) (not b)) (listed_same e e' j (target (m + i)) same))
