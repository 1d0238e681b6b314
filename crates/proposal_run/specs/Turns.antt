-- The list of a plan as the code goes through it, one entry's numbers after another's.
use Rattle.std.specs.Prelude.{◌≡◌, Bool, true, false, List, ◌++◌, ℕ, suc, ◌+◌, ◌-◌, ◌*◌, ◌/◌, ◌<◌, ◌≤◌, eqb, length, get_or, set, drop, replicate}
use Rattle.std.proofs.Common.{sym, ◌∙◌, subst, mul-zero, mul-suc, add-one, length-drop, length-append, get_or-drop, arith, eq-eqb, ne_eqb, get_or-set_same, get_or-set_other}
use Rattle.std.proofs.Math.Path.{ap}
use Rattle.std.proofs.Math.Bool.{not}
use Rattle.std.proofs.Math.Nat.{lt_of_mul-lt-mul_left}
use Rattle.std.proofs.Math.ListN.{get_or-append}
use Rattle.std.proofs.Math.Seq.{drop-drop, drop_at}
use Rattle.std.proofs.lemmas.List.{get_or-replicate}
use Rattle.lists.specs.Pick.{pick, pick_true, pick-false, equal_or_not}
use Rattle.lists.specs.Search.{any}
use Rattle.lists.specs.Tabulate.{at}
use Rattle.numbers.specs.declared.Layout.{Layout}
use Rattle.numbers.specs.declared.Shape.{Shape}
use Rattle.numbers.specs.Layouts.{Valid, image_length}
use Rattle.numbers.specs.Answers.{Shaped}
use Rattle.place.specs.Places.{tile_permutation}
use Rattle.parity.specs.Matrix.{flag}
use Rattle.parity.specs.Group.{Solvable}
use Rattle.homes.specs.declared.Record.{Record}
use Rattle.homes.specs.Records.{Good}
use Rattle.homes.specs.Listed.{listed, listed_next, listed_same}
use Rattle.homes.specs.Standing.{InTile}
use Rattle.pool.specs.Asked.{Sound}
use Rattle.plan.specs.declared.Plan.{Plan}
use Rattle.plan.specs.Plans.{miss_of, Right, Planned, Fits}
use Rattle.runs.specs.Run.{run_set}
use Rattle.runs.specs.Held.{held_run}
use Rattle.groups.specs.Mend.{MendFits}
use Rattle.survey.specs.declared.Survey.{Survey}
use Rattle.survey.specs.Starts.{StartsUnder}
use Rattle.survey.specs.Surveyed.{Surveying}
use Rattle.proposal.specs.Plans.{entry_size, entries, number_of, group_named, content_named, source, Accepts}
use Rattle.proposal.specs.Running.{unused, planned_image}
use Rattle.proposal_run.specs.Steps.{entry_image, ran_to, ran_length, ran_none, ran_next, ran_all}
use Rattle.proposal_run.specs.Entry.{LeavesSources, EntryPlan, entry_solvable, entry-planned, entry_fits, entry_mend_fits, entry-run}

-- entry e of an accepted plan: its numbers, as they lie in the plan
pub record AtEntry (y : Layout) (s : Shape) (R : Record) (plan : List ℕ) (e : ℕ) (entry : List ℕ) : Type 0 where
  pub valid : Valid y
  pub shape : Shaped y s
  pub good : Good y R
  pub accepts : Accepts y R plan
  pub entry_lt : e < entries y plan
  pub long : length entry ≡ entry_size y
  pub numbers : (f : ℕ) → f < entry_size y → at entry f ≡ number_of y plan e f

-- an entry of some accepted plan
pub record RunsEntry (y : Layout) (s : Shape) (R : Record) (entry : List ℕ) : Type 0 where
  pub plan : List ℕ
  pub number : ℕ
  pub there : AtEntry y s R plan number entry

-- the sources may be contents
abbrev pub MayBeContents : List ℕ → Type 0
MayBeContents sources = (j : ℕ) → j < length sources → at sources j < 19

-- the flags are set at all contents but the first n of these
pub record LeftOut (sources : List ℕ) (n : ℕ) (flags : List Bool) : Type 0 where
  pub are : (u : ℕ) → u < 19 → flag flags u ≡ not (listed (at sources) n u)

-- where so much of the plan is left, from an entry on: the entries before it are run
pub record RanEntries (y : Layout) (R : Record) (plan img₀ left img : List ℕ) : Type 0 where
  pub done : ℕ
  pub here : left ≡ drop (entry_size y * done) plan
  pub few : done ≤ entries y plan
  pub ran : img ≡ ran_to y R plan img₀ done

-- ---- what stands for an entry: its sources alone

pub left-none : (sources : List ℕ) → LeftOut sources 0 (replicate 19 true)
unfolding listed any
left-none sources = record { are = λ u h. get_or-replicate 19 u true false h }

-- one source more
pub left_turn : (sources : List ℕ) (j : ℕ) (flags : List Bool) → length flags ≡ 19 → at sources j < 19 → LeftOut sources j flags
    → LeftOut sources (j + 1) (set flags (at sources j) false)
left_turn sources j flags len lt left =
    record {
      are = λ u h.
          equal_or_not u x
          (λ (e : u ≡ x).
          ap (flag (set flags x false)) e
          ∙ get_or-set_same flags x false false (omega (arith, len))
          ∙ sym (ap not (listed_next (at sources) j u ∙ pick_true (eqb x u) true _ (eq-eqb x u (sym e)))))
          (λ (ne : u ≡ x → ⊥).
          get_or-set_other flags x u false false ne
          ∙ left.are u h
          ∙ sym (ap not (listed_next (at sources) j u ∙ pick-false (eqb x u) true _ (ne_eqb x u (λ (e : x ≡ u). ne (sym e))))));
    }
  where
    x : ℕ
    x = at sources j

-- ---- what the list has at an entry

module _ (y : Layout) (s : Shape) (R : Record) (plan : List ℕ) (e : ℕ) (entry : List ℕ) (k : AtEntry y s R plan e entry) where
  group_read_lem : at entry 0 ≡ group_named y plan e
  group_read_lem = k.numbers 0 (omega arith)

  content_read : at entry 1 ≡ content_named y plan e
  content_read = k.numbers 1 (omega arith)

  pub entry_tile : (to : List ℕ) → to ≡ tile_permutation y (at entry 0 / s.c) → Good y R × InTile y s to (at entry 0)
  entry_tile to q = (
    k.good,
    record {
      valid = k.valid;
      shape = k.shape;
      tile = q;
      group = omega (arith, group_read_lem, k.accepts.group_lt e k.entry_lt);
    },
  )

  -- its sources
  module _ (sources : List ℕ) (behind : sources ≡ drop 2 entry) where
    sources_long : length sources ≡ y.n
    sources_long = omega (arith, ap length behind, length-drop 2 entry, k.long)

    source_read : (j : ℕ) → j < y.n → at sources j ≡ source y plan e j
    source_read j h = ap (λ (l : List ℕ). at l j) behind ∙ get_or-drop 2 entry j 0 ∙ k.numbers (2 + j) (omega arith)

    pub entry_sources : MayBeContents sources
    entry_sources j h =
        let b : j < y.n = omega (arith, h, sources_long) in
        omega (arith, source_read j b, k.accepts.source-lt e j k.entry_lt b, k.valid.few_data, k.valid.few_parity)

    entry-left : (flags : List Bool) → LeftOut sources (length sources) flags → LeavesSources y plan e flags
    unfolding unused
    entry-left flags left u h =
        left.are u (omega (arith, h, k.valid.few_data, k.valid.few_parity))
        ∙ ap not (ap (λ (n : ℕ). listed (at sources) n u) sources_long ∙ listed_same (at sources) (source y plan e) y.n u (λ j b. source_read j b))

-- ---- what its code hands on

module _ (y : Layout) (s : Shape) (R : Record) (plan : List ℕ) (e : ℕ) (entry : List ℕ) (k : AtEntry y s R plan e entry) (last : Survey)
    (w : Surveying y last) (sources : List ℕ) (behind : sources ≡ drop 2 entry) (flags : List Bool) (left : LeftOut sources (length sources) flags) where
  leaves : LeavesSources y plan e flags
  leaves = entry-left y s R plan e entry k sources behind flags left

  pub entry_next : Right last.plan × Solvable last.plan.n last.plan.k (flag flags)
  entry_next = entry_solvable y k.valid R k.good plan k.accepts e k.entry_lt last w flags leaves

  module _ (homes : List ℕ) (new : StartsUnder y R R.k (at entry 0) homes) (Q : Plan)
      (p : Planned last.plan.n last.plan.k last.plan.u homes flags Q) where
    new-here : StartsUnder y R R.k (group_named y plan e) homes
    new-here = subst (λ (g : ℕ). StartsUnder y R R.k g homes) (group_read_lem y s R plan e entry k) new

    planned : EntryPlan y R plan e Q
    planned = entry-planned y k.valid R k.good plan k.accepts e k.entry_lt last w homes new-here flags leaves Q p

    pub entry_ready : (size : ℕ) → size ≡ image_length y → Fits Q size × MendFits Q homes size × (at entry 1 < Q.n + Q.k)
    entry_ready size q = (
      entry_fits y k.valid R k.good plan k.accepts e k.entry_lt Q planned size q,
      entry_mend_fits y k.valid R k.good plan k.accepts e k.entry_lt Q planned homes new-here size q,
      omega (arith, content_read y s R plan e entry k, k.accepts.content-lt e k.entry_lt, planned.n_is, planned.k_is),
    )

    pub entry_surveyed : (tile : ℕ) (to : List ℕ) → to ≡ tile_permutation y tile → Surveying y (record { tile = tile; to = to; plan = Q })
    entry_surveyed tile to t =
        record { to_is = t; n_is = planned.n_is; k_is = planned.k_is; u_is = planned.u_is; right = planned.right }

    pub entry_stored : (img img' : List ℕ) → length img ≡ image_length y
        → img' ≡ pick (miss_of Q (at entry 1)) (run_set (get_or homes (at entry 1) 0) Q.u (held_run Q img 0 (at entry 1)) img) img
        → img' ≡ entry_image y R plan e img
    entry_stored img img' len q =
        entry-run y k.valid R k.good plan k.accepts e k.entry_lt Q planned homes new-here img img' len
        (q ∙ ap (λ (d : ℕ). pick (miss_of Q d) (run_set (get_or homes d 0) Q.u (held_run Q img 0 d) img) img) (content_read y s R plan e entry k))

-- ---- entry after entry

pub run_begin : (y : Layout) (R : Record) (plan img left : List ℕ) → left ≡ plan → RanEntries y R plan img left img
run_begin y R plan img left e =
    record {
      done = 0;
      here = e ∙ sym (ap (λ (n : ℕ). drop n plan) (mul-zero (entry_size y)));
      few = omega arith;
      ran = sym (ran_none y R plan img);
    }

module _ (y : Layout) (R : Record) (plan img₀ : List ℕ) (sound : Sound y R (length img₀)) (k : Accepts y R plan) (left img : List ℕ)
    (r : RanEntries y R plan img₀ left img) where
  pub run_length : length img ≡ length img₀
  run_length = ap length r.ran ∙ ran_length y R plan img₀ r.done

  left_long : length left ≡ length plan - entry_size y * r.done
  left_long = ap length r.here ∙ length-drop (entry_size y * r.done) plan

  -- what is left begins with an entry
  module _ (entry rest : List ℕ) (cut : left ≡ entry ++ rest) (long : length entry ≡ entry_size y) where
    run_at : (s : Shape) → Shaped y s → AtEntry y s R plan r.done entry
    unfolding number_of
    run_at s shape =
        record {
          valid = sound.valid;
          shape = shape;
          good = sound.good;
          accepts = k;
          entry_lt =
              lt_of_mul-lt-mul_left (entry_size y) {m = r.done} {n = entries y plan}
              (omega (arith, k.whole, left_long, ap length cut, length-append entry rest, long));
          long = long;
          numbers = λ f h.
              sym (get_or-append entry rest 0 f (omega (arith, long)))
              ∙ ap (λ (l : List ℕ). at l f) (sym cut ∙ r.here)
              ∙ get_or-drop (entry_size y * r.done) plan f 0;
        }

    pub run_entry : (s : Shape) → Shaped y s → RunsEntry y s R entry
    run_entry s shape = record { plan = plan; number = r.done; there = run_at s shape }

    pub run_turn : (s : Shape) → Shaped y s → (img' : List ℕ)
        → ((list : List ℕ) (e : ℕ) → AtEntry y s R list e entry → img' ≡ entry_image y R list e img) → RanEntries y R plan img₀ rest img'
    run_turn s shape img' stored =
        record {
          done = r.done + 1;
          here =
              sym (drop_at entry rest (entry_size y) long)
              ∙ ap (drop (entry_size y)) (sym cut ∙ r.here)
              ∙ drop-drop (entry_size y) (entry_size y * r.done) plan
              ∙ ap (λ (n : ℕ). drop n plan) (omega (arith, mul-suc (entry_size y) r.done, ap (λ (i : ℕ). entry_size y * i) (add-one r.done)));
          few = omega (arith, here.entry_lt);
          ran =
              stored plan r.done here
              ∙ ap (entry_image y R plan r.done) r.ran
              ∙ ran_next y R plan img₀ sound.valid sound.good k sound.len_is r.done here.entry_lt;
        }
      where
        here : AtEntry y s R plan r.done entry
        here = run_at s shape

  -- where less than an entry is left, all are run
  pub run_end : length left < entry_size y → img ≡ planned_image y R plan img₀
  run_end h =
      r.ran ∙ ap (ran_to y R plan img₀) all ∙ ran_all y R plan img₀ sound.valid sound.good k sound.len_is
    where
      all : r.done ≡ entries y plan
      all =
          let past : entries y plan < suc r.done =
          lt_of_mul-lt-mul_left (entry_size y) {m = entries y plan} {n = suc r.done} (omega (arith, h, k.whole, left_long, mul-suc (entry_size y) r.done)) in
          omega (arith, past, r.few)
