-- A plan whose sources are the N lowest present contents is plain repair, on any image at all.
use Rattle.std.specs.Prelude.{◌≡◌, refl, Bool, List, ℕ, ◌+◌, ◌%◌, ◌<◌, ◌≤◌, length}
use Rattle.std.proofs.Common.{sym, ◌∙◌, mod-lt, lt-ltb, ltb-true, lit<}
use Rattle.std.proofs.Math.Path.{ap}
use Rattle.std.proofs.Math.Bool.{true, not}
use Rattle.std.proofs.Math.Nat.{mod-mod}
use native.Mathlib.Omega.{arith}
use Rattle.lists.specs.Pick.{bit, both_true, both_hold, same_truth}
use Rattle.lists.specs.Count.{count, count_next, count_mono, count-not}
use Rattle.lists.specs.Those.{length-those, those_hold, those-place, those_rank}
use Rattle.lists.specs.Tabulate.{at}
use Rattle.field.specs.Byte.{mul}
use Rattle.field.specs.Laws.{mul_low}
use Rattle.field.specs.Sum.{sum_cong}
use Rattle.numbers.specs.declared.Layout.{Layout}
use Rattle.numbers.specs.Layouts.{Valid, all_groups, contents, image_length}
use Rattle.parity.specs.Group.{Solvable, rebuilt}
use Rattle.parity.specs.Content.{content_cong}
use Rattle.parity.specs.Restores.{lost_most}
use Rattle.parity.specs.Rows.{slot, row_of, row_gives}
use Rattle.parity.specs.Lowest.{used, Rebuilds, rebuilds, determined}
use Rattle.homes.specs.declared.Record.{Record}
use Rattle.homes.specs.Listed.{listed, listed_at}
use Rattle.homes.specs.Once.{place_in, listed_where}
use Rattle.homes.specs.Records.{Good}
use Rattle.homes.specs.Missing.{missing}
use Rattle.homes.proofs.MissingLaws.{few-missing}
use Rattle.pool.specs.Contents.{stored, content_byte}
use Rattle.pool.specs.Repairing.{mends, mended_image}
use Rattle.pool.specs.StoringLaws.{storing_alike}
use Rattle.pool.specs.Holds.{solvable}
use Rattle.proposal.specs.Plans.{entries, group_named, source, Accepts}
use Rattle.proposal.specs.Drawing.{present_in}
use Rattle.proposal.specs.Running.{named_by, unused, planned_byte, planned_image}
use Rattle.proposal.specs.RunningLaws.{named_by_lem, sources_count, plan_solvable, missing-unused}
use Rattle.proposal.specs.LowestSources.{lowest-rebuilt, LowestSources, enough_present}

module _ (y : Layout) (R : Record) (plan : List ℕ) (v : Valid y) (r : Good y R) (k : Accepts y R plan) (low : LowestSources y R plan) where
  -- they are the units that plain repair uses
  pub lowest-used : (i : ℕ) → i < entries y plan → (u : ℕ) → u < contents y → listed (source y plan i) y.n u ≡ used y.n (missing y R (group_named y plan i)) u
  lowest-used i hi u hu = same_truth _ _ to from
    where
      g : ℕ
      g = group_named y plan i

      here : ℕ → Bool
      here u = not (missing y R g u)

      to : listed (source y plan i) y.n u ≡ true → used y.n (missing y R g) u ≡ true
      to t =
          let w = listed_where (source y plan i) y.n u t in
          let j = place_in (source y plan i) y.n u in
          let e : at (present_in y R g) j ≡ u = sym (low i j hi w.0) ∙ w.1 in
          let b : j < length (present_in y R g) = omega (arith, w.0, enough_present y R v r g) in
          both_hold (here u) _ (ap here (sym e) ∙ those_hold here (contents y) j b)
          (lt-ltb _ y.n (omega (arith, ap (count here) e, those_rank here (contents y) j b, w.0)))

      from : used y.n (missing y R g) u ≡ true → listed (source y plan i) y.n u ≡ true
      from t =
          let b = both_true (here u) _ t in
          let q = those-place here (contents y) u hu b.0 in
          let h : count here u < y.n = ltb-true (count here u) y.n b.1 in
          ap (listed (source y plan i) y.n) (sym (low i (count here u) hi h ∙ q.1)) ∙ listed_at (source y plan i) y.n (count here u) h

  -- and on any image a plan of such sources does what plain repair does
  pub lowest-mended : (img : List ℕ) → length img ≡ image_length y → planned_image y R plan img ≡ mended_image y R img
  unfolding planned_byte content_byte
  lowest-mended img len =
      storing_alike y v R R.k (mends y R) (mends y R) (planned_byte y R plan img) (content_byte y R img) img len (λ g o c hg ho hc. refl) byte
    where
      byte : (g o c : ℕ) → g < all_groups y → o < y.u → c < contents y → missing y R g c ≡ true → planned_byte y R plan img g o c ≡ content_byte y R img g o c
      byte g o c hg ho hc t =
          let i = named_by y plan g c in
          let w = named_by_lem y R plan k g c hg hc t in
          lowest-rebuilt y.n y.k (missing y R g) (unused y plan i) (solvable y R v r g) (plan_solvable y R plan k v i w.0)
          (λ u b. unfold unused in (ap not (lowest-used i w.0 u b ∙ ap (λ (q : ℕ). used y.n (missing y R q) u) w.1.0)))
          (unfold unused in (omega (
            arith,
            sources_count y R plan k i w.0,
            count-not (listed (source y plan i) y.n) (contents y),
            count-not (λ u. not (listed (source y plan i) y.n u)) (contents y),
          )))
          (stored y R img g o) c hc t
          (missing-unused y R plan k i c w.0 (ap (λ (q : ℕ). missing y R q c) w.1.0 ∙ t))
