-- Running an accepted plan. On an image that holds a file it leaves what plain repair leaves, whoever drew the plan up; on any image it does so
-- where its sources are the N lowest present contents. Entry after entry, in any order, comes to the whole.
use Rattle.std.specs.Prelude.{◌≡◌, true, false, ℕ, ◌<◌, length}
use Rattle.std.proofs.Math.Path.{refl, sym}
use Rattle.std.proofs.Common.{ap, ◌∙◌, subst, ⊎_elim, arith}
use mathlib.Core.List.{List, []}
use Rattle.std.proofs.lemmas.Bool.{not-false}
use Rattle.lists.specs.Pick.{clash, either_way}
use Rattle.lists.specs.Count.{count, count-not}
use Rattle.lists.specs.Search.{any-true, lowest_is}
use Rattle.lists.specs.Tabulate.{at}
use Rattle.lists.specs.Refusal.{refusal_by, grant_yes}
use Rattle.numbers.specs.declared.Layout.{Layout}
use Rattle.numbers.specs.Layouts.{Valid, all_groups, contents}
use Rattle.place.specs.Bytes.{offset_of}
use Rattle.place.specs.ByteLaws.{offset_lt}
use Rattle.parity.specs.Group.{Solvable}
use Rattle.parity.specs.Restores.{restores}
use Rattle.homes.specs.declared.Record.{Record}
use Rattle.homes.specs.Listed.{listed}
use Rattle.homes.specs.Once.{differ_once, listed_where, count-listed}
use Rattle.homes.specs.Records.{Good}
use Rattle.homes.specs.Missing.{missing}
use Rattle.pool.specs.Contents.{stored, content_byte}
use Rattle.pool.specs.Refusals.{repair_refusal}
use Rattle.pool.specs.StoringLaws.{storing_alike}
use Rattle.pool.specs.Repairing.{mends, mended_image, repair_image, repair_record, repair_count}
use Rattle.pool.specs.Files.{encoded}
use Rattle.pool.specs.Asked.{Sound, pool-asked, sound-passes}
use Rattle.pool.specs.Holds.{Holds, content_holds}
use Rattle.proposal.specs.Plans.{entries, group_named, content_named, source, names, Accepts}
use Rattle.proposal.specs.Accepted.{names-true, names_hold}
use Rattle.proposal.specs.Running.{plan_tests, plan_refusal, named_by, unused, planned_byte, planned_image, plan_image, plan_record, plan_count}

-- ---- the sources of an accepted plan

module _ (y : Layout) (R : Record) (plan : List ℕ) (k : Accepts y R plan) where
  -- the entry that names a missing content
  pub named_by_lem : (g c : ℕ) → g < all_groups y → c < contents y → missing y R g c ≡ true
      → (named_by y plan g c < entries y plan) × ((group_named y plan (named_by y plan g c) ≡ g) × (content_named y plan (named_by y plan g c) ≡ c))
  unfolding named_by
  named_by_lem g c hg hc t =
      let w = k.named g c hg hc t in
      let r = lowest_is (λ i. names y plan i g c) (entries y plan)
      (any-true (λ i. names y plan i g c) (entries y plan) w.by w.by_lt (names_hold y plan w.by g c w.group_is w.content_is)) in
      (r.0, names-true y plan _ g c r.1)

  -- and an entry is the one that names its content
  pub named_by_entry : (i : ℕ) → i < entries y plan → named_by y plan (group_named y plan i) (content_named y plan i) ≡ i
  named_by_entry i h =
      let w = named_by_lem _ _ (k.group_lt i h) (k.content-lt i h) (k.is_missing i h) in
      k.once _ i w.0 h w.1.0 w.1.1

  -- N of them
  pub sources_count : (i : ℕ) → i < entries y plan → count (listed (source y plan i) y.n) (contents y) ≡ y.n
  sources_count i h =
      count-listed (source y plan i) y.n (contents y) (λ j. k.source-lt i j h) (differ_once (source y plan i) y.n (λ j l. k.source_differs i j l h))

  -- so at most K contents are left out
  pub plan_solvable : Valid y → (i : ℕ) → i < entries y plan → Solvable y.n y.k (unused y plan i)
  unfolding unused
  plan_solvable v i h =
      record {
        data_max = v.few_data;
        parity_max = v.few_parity;
        few = omega (arith, count-not (listed (source y plan i) y.n) (contents y), sources_count i h);
      }

  -- a content that is used is one of them
  pub used-source : (i u : ℕ) → i < entries y plan → unused y plan i u ≡ false → (j : ℕ) × (j < y.n) × (source y plan i j ≡ u)
  unfolding unused
  used-source i u h t = let w = listed_where (source y plan i) y.n u (not-false (listed (source y plan i) y.n u) t) in (_, w.0, w.1)

  -- and so present
  pub used-present : (i u : ℕ) → i < entries y plan → unused y plan i u ≡ false → missing y R (group_named y plan i) u ≡ false
  used-present i u h t = let w = used-source i u h t in ap (missing y R (group_named y plan i)) (sym w.2) ∙ k.source-present i w.0 h w.1

  -- and a missing one is not used
  pub missing-unused : (i u : ℕ) → i < entries y plan → missing y R (group_named y plan i) u ≡ true → unused y plan i u ≡ true
  missing-unused i u h t =
      ⊎_elim (λ (e : unused y plan i u ≡ true). e)
      (λ (e : unused y plan i u ≡ false). clash (missing y R (group_named y plan i) u) t (used-present i u h e)) (either_way (unused y plan i u))

-- ---- on an image that holds a file

-- ---- the call

-- what is known once a plan is accepted
pub record PlanAsked (y : Layout) (R : Record) (len : ℕ) (plan : List ℕ) : Type 0 where
  pub sound : Sound y R len
  pub accepts : Accepts y R plan
