-- What the steps of a survey hand on.
use Rattle.std.specs.Prelude.{◌≡◌, false, List, ℕ, ◌≤◌, ◌<◌, get_or, replicate}
use Rattle.std.proofs.Common.{sym, ap, ◌∙◌, arith}
use Rattle.std.proofs.Math.Path.{subst⁻¹}
use Rattle.std.proofs.lemmas.List.{get_or-replicate}
use Rattle.lists.specs.Count.{count_same}
use Rattle.numbers.specs.declared.Layout.{Layout}
use Rattle.numbers.specs.Layouts.{Valid, width, contents}
use Rattle.place.specs.Bytes.{spot}
use Rattle.parity.specs.Group.{Solvable}
use Rattle.parity.specs.Matrix.{flag}
use Rattle.homes.specs.declared.Record.{Record}
use Rattle.homes.specs.Records.{failed, Good}
use Rattle.homes.specs.Missing.{target_at, home, missing}
use Rattle.homes.proofs.MissingLaws.{home-own, home-lt, repaired_present}
use Rattle.homes.specs.Standing.{HomesAre}
use Rattle.homes.proofs.StandingLaws.{homes_are}
use Rattle.pool.specs.Holds.{solvable}
use Rattle.plan.specs.declared.Plan.{Plan}
use Rattle.plan.specs.Plans.{Planned}
use Rattle.survey.specs.declared.Sites.{Sites}
use Rattle.survey.specs.declared.Stand.{Stand}
use Rattle.survey.specs.declared.Survey.{Survey}
use Rattle.survey.specs.Starts.{Sited, StartsUnder, Stands}
use Rattle.survey.specs.Surveyed.{Surveyed, Surveying}

-- homes that were worked out are units of the group, and where they begin is where the contents do
module _ (y : Layout) (v : Valid y) (R : Record) (g j : ℕ) (le : j ≤ y.k) (x : Sites) (sited : Sited y g x)
    (r : List ℕ) (h : HomesAre x.targets (contents y) y.k R.failed j r) where
  homes-here : (c : ℕ) → c < contents y → get_or r c 0 ≡ home y R j g c
  homes-here = homes_are y v g x.targets sited.targets_are R j le r h

  home_in_lem : (c : ℕ) → c < contents y → get_or r c 0 < width y
  home_in_lem c b = subst⁻¹ (λ (u : ℕ). u < width y) (homes-here c b) (home-lt y v R g j le c b)

  pub homes_fit : (contents y ≤ 19) × ((c : ℕ) → c < contents y → get_or r c 0 < 22)
  homes_fit = (omega (arith, v.few_data, v.few_parity), λ c b. omega (arith, home_in_lem c b, v.few_data, v.few_parity))

  pub starts_of : (at : List ℕ) → ((c : ℕ) → c < contents y → get_or at c 0 ≡ get_or x.starts (get_or r c 0) 0) → StartsUnder y R j g at
  starts_of at e c b = e c b ∙ sited.starts_are (get_or r c 0) (home_in_lem c b) ∙ ap (λ (u : ℕ). spot y g u 0) (homes-here c b)

-- a group of the pool can be planned
module _ (y : Layout) (v : Valid y) (R : Record) (good : Good y R) (g : ℕ) (last : Survey) (w : Surveying y last) (x : Stand) (st : Stands y R g x) where
  pub solvable_here : Solvable last.plan.n last.plan.k (flag x.missing)
  solvable_here =
      subst⁻¹ (λ (n : ℕ). Solvable n last.plan.k (flag x.missing)) w.n_is
      (subst⁻¹ (λ (k : ℕ). Solvable y.n k (flag x.missing)) w.k_is
      (let s = solvable y R v good g in
      record {
        data_max = s.data_max;
        parity_max = s.parity_max;
        few = subst⁻¹ (λ (m : ℕ). m ≤ y.k) (count_same (flag x.missing) (missing y R g) (contents y) st.flags) s.few;
      }))

-- the plan of what stands in a group is that of the group
module _ (y : Layout) (R : Record) (g : ℕ) (x : Stand) (st : Stands y R g x) where
  pub surveyed_of : (n k u : ℕ) → n ≡ y.n → k ≡ y.k → u ≡ y.u → (P : Plan) → Planned n k u x.at x.missing P → Surveyed y R R.q g P
  surveyed_of n k u en ek eu P p =
      record {
        n_is = p.n_is ∙ en;
        k_is = p.k_is ∙ ek;
        u_is = p.u_is ∙ eu;
        at_is = λ c b. ap (λ (l : List ℕ). get_or l c 0) p.at_is ∙ st.starts c b;
        flags_are = λ c b. p.flags_are c (omega (arith, en, ek)) ∙ st.flags c b;
        right = p.right;
      }

-- under no entry each content is at its own unit
own_starts_under : (y : Layout) (R : Record) (g j : ℕ) → j ≡ 0 → (at : List ℕ) → ((c : ℕ) → c < contents y → get_or at c 0 ≡ spot y g c 0) → StartsUnder y R j g at
own_starts_under y R g j none at e c b = e c b ∙ ap (λ (u : ℕ). spot y g u 0) (sym (home-own y R g j c none))

-- so while nothing is repaired, where the units begin and which of them lie on a failed target tells all
pub own_stands : (y : Layout) (R : Record) (g : ℕ) → R.q ≡ 0 → (x : Stand) → ((c : ℕ) → c < contents y → get_or x.at c 0 ≡ spot y g c 0)
    → ((c : ℕ) → c < contents y → get_or x.missing c false ≡ failed R (target_at y g c)) → Stands y R g x
unfolding missing
own_stands y R g none x starts flags =
    record {
      starts = own_starts_under y R g R.q none x.at starts;
      flags = λ c b. flags c b ∙ ap (λ (u : ℕ). failed R (target_at y g u)) (sym (home-own y R g R.q c none));
    }

-- where all failed targets are repaired nothing is missing, since no home under the whole list lies on one of them
module _ (y : Layout) (v : Valid y) (R : Record) (good : Good y R) (g : ℕ) (at : List ℕ) where
  pub mended_stands : R.q ≡ R.k → StartsUnder y R R.k g at → Stands y R g (record { at = at; missing = replicate 19 false })
  mended_stands all starts =
      record {
        starts = subst⁻¹ (λ (j : ℕ). StartsUnder y R j g at) all starts;
        flags = λ c b. get_or-replicate 19 c false false (omega (arith, b, v.few_data, v.few_parity)) ∙ sym (repaired_present y v R g good.few all c b);
      }

  -- so it is where none has failed, and each content is at its own unit
  pub whole_stands : R.k ≡ 0 → ((c : ℕ) → c < contents y → get_or at c 0 ≡ spot y g c 0) → Stands y R g (record { at = at; missing = replicate 19 false })
  whole_stands none e = mended_stands (omega (arith, good.mended, none)) (own_starts_under y R g R.k none at e)
