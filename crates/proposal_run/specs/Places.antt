-- The entries of a plan by the places at which their numbers begin, a place being how many of the list's numbers stand before it.
use Rattle.std.specs.Prelude.{◌≡◌, Bool, List, ℕ, ◌+◌, ◌*◌, ◌/◌, ◌<◌, ◌≤◌, length, get_or}
use Rattle.std.proofs.Common.{sym, ◌∙◌, subst, mul-le-mul_left, arith}
use Rattle.std.proofs.Math.Path.{ap}
use Rattle.std.proofs.Math.Bool.{not}
use Rattle.std.proofs.Math.Nat.{mul-div_cancel_left, lt_of_mul-lt-mul_left}
use Rattle.lists.specs.Pick.{pick}
use Rattle.lists.specs.Tabulate.{at}
use Rattle.numbers.specs.declared.Layout.{Layout}
use Rattle.numbers.specs.declared.Shape.{Shape}
use Rattle.numbers.specs.Layouts.{Valid, image_length}
use Rattle.numbers.specs.Answers.{Shaped}
use Rattle.place.specs.Places.{tile_permutation}
use Rattle.parity.specs.Matrix.{flag}
use Rattle.homes.specs.declared.Record.{Record}
use Rattle.homes.specs.Records.{Good}
use Rattle.homes.specs.Listed.{listed, listed_same}
use Rattle.pool.specs.Asked.{Sound}
use Rattle.plan.specs.declared.Plan.{Plan}
use Rattle.plan.specs.Plans.{miss_of, Planned}
use Rattle.runs.specs.Run.{run_set}
use Rattle.runs.specs.Held.{held_run}
use Rattle.survey.specs.declared.Survey.{Survey}
use Rattle.survey.specs.Starts.{StartsUnder}
use Rattle.survey.specs.Surveyed.{Surveying}
use Rattle.proposal.specs.Plans.{entry_size, entries, number_of, group_named, content_named, source, Accepts}
use Rattle.proposal.specs.Running.{unused, planned_image}
use Rattle.proposal_run.specs.Steps.{entry_image, ran_to, ran_next, ran_all}
use Rattle.proposal_run.specs.Entry.{LeavesSources, EntryPlan, entry-planned, entry-run}

-- the entry whose numbers begin at number a of the list
abbrev pub entry_at : Layout → ℕ → ℕ
entry_at y a = a / entry_size y

-- number a of the list is where an entry of an accepted plan begins
pub record AtEntry (y : Layout) (s : Shape) (R : Record) (plan : List ℕ) (a : ℕ) : Type 0 where
  pub valid : Valid y
  pub shape : Shaped y s
  pub good : Good y R
  pub accepts : Accepts y R plan
  pub begins : a ≡ entry_size y * entry_at y a
  pub entry_lt : entry_at y a < entries y plan

-- the n numbers from number `from` on
abbrev pub source_from : List ℕ → ℕ → ℕ → ℕ
source_from plan from j = at plan (from + j)

-- are there, and may be contents
pub record SourcesFrom (plan : List ℕ) (from n : ℕ) : Type 0 where
  pub room : from + n ≤ length plan
  pub below : (j : ℕ) → j < n → source_from plan from j < 19

-- the flags are set at all contents but these
pub record LeftOut (plan : List ℕ) (from n : ℕ) (flags : List Bool) : Type 0 where
  pub are : (u : ℕ) → u < 19 → flag flags u ≡ not (listed (source_from plan from) n u)

-- the first entries are run, up to the one that begins at number a
pub record RanEntries (y : Layout) (R : Record) (plan img₀ : List ℕ) (a : ℕ) (img : List ℕ) : Type 0 where
  pub begins : a ≡ entry_size y * entry_at y a
  pub few : entry_at y a ≤ entries y plan
  pub ran : img ≡ ran_to y R plan img₀ (entry_at y a)

-- ---- what the list has at an entry

module _ (y : Layout) (s : Shape) (R : Record) (plan : List ℕ) (a : ℕ) (e : AtEntry y s R plan a) where
  -- all its numbers
  pub entry_room : a + (y.n + 2) ≤ length plan
  entry_room = omega (arith, e.begins, e.accepts.whole, mul-le-mul_left (entry_size y) e.entry_lt)

  group_read_lem : at plan a ≡ group_named y plan (entry_at y a)
  unfolding number_of
  group_read_lem = ap (at plan) (let z : a ≡ entry_size y * entry_at y a + 0 = omega (arith, e.begins) in z)

  content_read : at plan (a + 1) ≡ content_named y plan (entry_at y a)
  unfolding number_of
  content_read = ap (λ (x : ℕ). at plan (x + 1)) e.begins

  source_read : (j : ℕ) → source_from plan (a + 2) j ≡ source y plan (entry_at y a) j
  unfolding number_of
  source_read j = ap (at plan) (let z : a + 2 + j ≡ entry_size y * entry_at y a + (2 + j) = omega (arith, e.begins) in z)

  pub entry_sources : SourcesFrom plan (a + 2) y.n
  entry_sources =
      record {
        room = omega (arith, entry_room);
        below = λ j h. omega (arith, source_read j, e.accepts.source-lt (entry_at y a) j e.entry_lt h, e.valid.few_data, e.valid.few_parity);
      }

  entry-left : (flags : List Bool) → LeftOut plan (a + 2) y.n flags → LeavesSources y plan (entry_at y a) flags
  unfolding unused
  entry-left flags left u h =
      left.are u (omega (arith, h, e.valid.few_data, e.valid.few_parity))
      ∙ ap not (listed_same (source_from plan (a + 2)) (source y plan (entry_at y a)) y.n u (λ j b. source_read j))

-- ---- what its code hands on

module _ (y : Layout) (s : Shape) (R : Record) (plan : List ℕ) (a : ℕ) (e : AtEntry y s R plan a) (last : Survey) (w : Surveying y last)
    (flags : List Bool) (left : LeftOut plan (a + 2) y.n flags) where
  module _ (homes : List ℕ) (new : StartsUnder y R R.k (at plan a) homes) (Q : Plan)
      (p : Planned last.plan.n last.plan.k last.plan.u homes flags Q) where
    new-here : StartsUnder y R R.k (group_named y plan (entry_at y a)) homes
    new-here = subst (λ (g : ℕ). StartsUnder y R R.k g homes) (group_read_lem y s R plan a e) new

    planned : EntryPlan y R plan (entry_at y a) Q
    planned =
        entry-planned y e.valid R e.good plan e.accepts (entry_at y a) e.entry_lt last w homes new-here flags (entry-left y s R plan a e flags left) Q p

    pub entry_done : (tile : ℕ) (to : List ℕ) → to ≡ tile_permutation y tile → (img img' : List ℕ) → length img ≡ image_length y → (c : ℕ) → c ≡ at plan (a + 1)
        → img' ≡ pick (miss_of Q c) (run_set (get_or homes c 0) Q.u (held_run Q img 0 c) img) img
        → Surveying y (record { tile = tile; to = to; plan = Q }) × (img' ≡ entry_image y R plan (entry_at y a) img)
    entry_done tile to t img img' len c ec q = (
      record { to_is = t; n_is = planned.n_is; k_is = planned.k_is; u_is = planned.u_is; right = planned.right },
      entry-run y e.valid R e.good plan e.accepts (entry_at y a) e.entry_lt Q planned homes new-here img img' len
          (q ∙ ap (λ (d : ℕ). pick (miss_of Q d) (run_set (get_or homes d 0) Q.u (held_run Q img 0 d) img) img) (ec ∙ content_read y s R plan a e)),
    )

-- ---- entry after entry

entry_of : (y : Layout) (a i : ℕ) → a ≡ entry_size y * i → entry_at y a ≡ i
entry_of y a i e = ap (entry_at y) e ∙ mul-div_cancel_left i (let z : 0 < y.n + 2 = omega arith in z)

module _ (y : Layout) (R : Record) (plan img₀ : List ℕ) (sound : Sound y R (length img₀)) (k : Accepts y R plan) (a : ℕ) (img : List ℕ)
    (r : RanEntries y R plan img₀ a img) where
  -- while the list goes on there is an entry more
  pub run_at : (s : Shape) → Shaped y s → a < length plan → AtEntry y s R plan a
  run_at s shape h =
      record {
        valid = sound.valid;
        shape = shape;
        good = sound.good;
        accepts = k;
        begins = r.begins;
        entry_lt = lt_of_mul-lt-mul_left (entry_size y) {m = entry_at y a} {n = entries y plan} (omega (arith, h, r.begins, k.whole));
      }

  pub run_turn : (s : Shape) → AtEntry y s R plan a → (img' : List ℕ) → img' ≡ entry_image y R plan (entry_at y a) img
      → RanEntries y R plan img₀ (a + (y.n + 2)) img'
  run_turn s e img' q =
      record {
        begins = omega (arith, r.begins, ap (λ (i : ℕ). entry_size y * i) next);
        few = omega (arith, next, e.entry_lt);
        ran =
            q
            ∙ ap (entry_image y R plan (entry_at y a)) r.ran
            ∙ ran_next y R plan img₀ sound.valid sound.good k sound.len_is (entry_at y a) e.entry_lt
            ∙ ap (ran_to y R plan img₀) (sym next);
      }
    where
      next : entry_at y (a + (y.n + 2)) ≡ entry_at y a + 1
      next = entry_of y (a + (y.n + 2)) (entry_at y a + 1) (omega (arith, r.begins))

  pub run_end : length plan ≤ a → img ≡ planned_image y R plan img₀
  run_end h =
      r.ran ∙ ap (ran_to y R plan img₀) all ∙ ran_all y R plan img₀ sound.valid sound.good k sound.len_is
    where
      all : entry_at y a ≡ entries y plan
      all =
          let past : entries y plan < entry_at y a + 1 =
          lt_of_mul-lt-mul_left (entry_size y) {m = entries y plan} {n = entry_at y a + 1} (omega (arith, h, r.begins, k.whole)) in
          omega (arith, past, r.few)
