-- Homes hang on the targets of the group's own units alone; so what the code works out from a group's targets are the layout's homes.
use Rattle.std.specs.Prelude.{◌≡◌, Bool, false, not, List, eqb, get_or}
use Rattle.std.proofs.Math.Path.{refl, ap}
use Rattle.std.proofs.Common.{sym, ap₂, ◌∙◌}
use Prim.Native.Nat.{ℕ, zero, suc, ◌+◌, ◌≤◌, ◌<◌}
use native.Mathlib.Omega.{arith}
use Rattle.lists.specs.Pick.{pick, both}
use Rattle.lists.specs.Search.{lowest, any_same, lowest_same}
use Rattle.lists.specs.Tabulate.{at}
use Rattle.numbers.specs.declared.Layout.{Layout}
use Rattle.numbers.specs.Layouts.{Valid, contents}
use Rattle.homes.specs.declared.Record.{Record}
use Rattle.homes.specs.Listed.{listed}
use Rattle.homes.specs.Homes.{free, move, homes}
use Rattle.homes.proofs.HomesLaws.{homes_apart}
use Rattle.homes.specs.Records.{entry, failed, Good}
use Rattle.homes.specs.Missing.{target_at, home, missing}
use Rattle.homes.specs.MissingLaws.{units_apart}
use Rattle.homes.proofs.MissingLaws.{home-lt}
use Rattle.homes.specs.Standing.{TargetsAre, Units, Standing, HomesAre, MissingAre}

module _ (target target' : ℕ → ℕ) (m K : ℕ) (e : ℕ → ℕ) (same : (u : ℕ) → u < m + K → target u ≡ target' u) where
  pub move_cong : (j : ℕ) (h h' : ℕ → ℕ) → ((c : ℕ) → c < m → h c ≡ h' c) → ((c : ℕ) → c < m → h' c < m + K)
      → (c : ℕ) → c < m → move target m K e j h c ≡ move target' m K e j h' c
  unfolding move free
  move_cong j h h' eq below c b =
      (λ i. pick (eqb (at_home i) (e j)) (m + spare i) (eq c b i))
    where
      at_home : target (h c) ≡ target' (h' c)
      at_home = ap target (eq c b) ∙ same (h' c) (below c b)

      spare : lowest (free target m e (suc j) h) K ≡ lowest (free target' m e (suc j) h') K
      spare =
          lowest_same (free target m e (suc j) h) (free target' m e (suc j) h') K
          (λ i l. ap₂ (λ (a b : Bool). both (not a) (not b)) (any_same _ _ m (λ d q. ap (λ (u : ℕ). eqb u (m + i)) (eq d q)))
          (ap (listed e (suc j)) (same (m + i) (omega arith))))

  pub homes_cong : ((d d' : ℕ) → d < m + K → d' < m + K → target' d ≡ target' d' → d ≡ d')
      → (j : ℕ) → j ≤ K → (c : ℕ) → c < m → homes target m K e j c ≡ homes target' m K e j c
  unfolding homes
  homes_cong apart zero le c b = refl
  homes_cong apart (suc j) le c b =
      move_cong j (homes target m K e j) (homes target' m K e j) (homes_cong apart j (omega arith))
      (homes_apart target' m K e apart j (omega arith)).below c b

module _ (y : Layout) (v : Valid y) (g : ℕ) (targets : List ℕ) (are : TargetsAre y g targets) where
  -- its targets are different
  pub standing_of : (j : ℕ) → j ≤ y.k → Standing targets (contents y) y.k j
  standing_of j le =
      record {
        few-contents = omega arith;
        few_spares = v.few_parity;
        few = le;
        apart = λ d d' h h' e. units_apart y v g d d' h h' (sym (are d (omega arith)) ∙ e ∙ are d' (omega arith));
      }

  module _ (R : Record) (j : ℕ) (le : j ≤ y.k) (r : List ℕ) (h : HomesAre targets (contents y) y.k R.failed j r) where
    -- homes under the record's first j entries
    pub homes_are : (c : ℕ) → c < contents y → at r c ≡ home y R j g c
    unfolding home
    homes_are c b =
        h c b ∙ homes_cong (at targets) (target_at y g) (contents y) y.k (entry R) (λ u l. are u (omega arith)) (units_apart y v g) j le c b

    pub units_of : Units targets r (contents y) y.k
    units_of =
        record {
          few-contents = omega arith;
          few_units = omega arith;
          units = λ c b. let l = home-lt y v R g j le c b in omega (arith, homes_are c b);
        }

  -- the flags of the missing contents
  pub missing_are : (R : Record) → Good y R → (r : List ℕ) → HomesAre targets (contents y) y.k R.failed R.q r
      → (flags : List Bool) → MissingAre targets r (contents y) R.failed R.k flags → (c : ℕ) → c < contents y → get_or flags c false ≡ missing y R g c
  unfolding missing
  missing_are R good r h flags f c b =
      let few = good.few in
      let q = good.mended in
      let l : R.q ≤ y.k = omega arith in
      f c b
      ∙ ap (λ (u : ℕ). failed R (at targets u)) (homes_are R R.q l r h c b)
      ∙ ap (failed R) (are (home y R R.q g c) (home-lt y v R g R.q l c b))
