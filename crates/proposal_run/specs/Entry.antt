-- One entry by the plan of its group in which every content but the entry's sources counts as missing: the content that the entry names is rebuilt
-- by that plan and stored at its home under the whole list. The plan leaves out present contents too, but they are read by no row and stored nowhere.
use Rattle.std.specs.Prelude.{◌≡◌, Bool}
use Rattle.std.proofs.Common.{sym, ◌∙◌}
use Rattle.std.proofs.Math.Path.{ap}
use mathlib.Core.List.{List}
use Prim.Native.Nat.{ℕ, ◌+◌, ◌<◌, ◌≤◌}
use Rattle.std.proofs.Math.Nat.{le_dest}
use native.Mathlib.Omega.{arith}
use Rattle.std.proofs.Math.ListN.{length, get_or}
use Rattle.lists.specs.Pick.{pick, pick_true}
use Rattle.lists.specs.Count.{count, count_same}
use Rattle.lists.specs.Part.{within_cases}
use Rattle.lists.specs.Tabulate.{at}
use Rattle.numbers.specs.declared.Layout.{Layout}
use Rattle.numbers.specs.Layouts.{Valid, contents, all_groups, image_length}
use Rattle.place.specs.Bytes.{spot}
use Rattle.parity.specs.Group.{Solvable, rebuilt}
use Rattle.parity.specs.Local.{rebuilt_cong}
use Rattle.parity.specs.Matrix.{flag}
use Rattle.homes.specs.declared.Record.{Record}
use Rattle.homes.specs.Records.{Good}
use Rattle.homes.specs.Missing.{home}
use Rattle.homes.proofs.MissingLaws.{home_stays}
use Rattle.pool.specs.Contents.{stored}
use Rattle.plan.specs.declared.Plan.{Plan}
use Rattle.plan.specs.Plans.{miss_of, Right, Planned, Fits, column, held}
use Rattle.plan.specs.Same.{missing_same}
use Rattle.runs.specs.Run.{run_set, length-run_set, run_set_in, run_set_out}
use Rattle.runs.specs.Held.{held_run}
use Rattle.groups.specs.Mend.{MendFits}
use Rattle.survey.specs.declared.Survey.{Survey}
use Rattle.survey.specs.Starts.{StartsUnder}
use Rattle.survey.specs.Surveyed.{Surveying, spot_plus}
use Rattle.survey.specs.Placing.{content_here, placed}
use Rattle.proposal.specs.Plans.{entries, group_named, content_named, Accepts}
use Rattle.proposal.specs.Running.{unused}
use Rattle.proposal.specs.RunningLaws.{plan_solvable, used-present, missing-unused}
use Rattle.proposal_run.specs.Steps.{entry_byte, entry_image, entry-laid}

-- the flags of a set of contents in which entry i's sources alone are left
abbrev pub LeavesSources : Layout → List ℕ → ℕ → List Bool → Type 0
LeavesSources y plan i flags = (u : ℕ) → u < contents y → flag flags u ≡ unused y plan i u

-- the plan of entry i's group with all but its sources counted as missing, and each content looked for at its home under the whole list
pub record EntryPlan (y : Layout) (R : Record) (plan : List ℕ) (i : ℕ) (Q : Plan) : Type 0 where
  pub n_is : Q.n ≡ y.n
  pub k_is : Q.k ≡ y.k
  pub u_is : Q.u ≡ y.u
  pub at_is : StartsUnder y R R.k (group_named y plan i) Q.at
  pub flags_are : LeavesSources y plan i Q.missing
  pub right : Right Q

module _ (y : Layout) (v : Valid y) (R : Record) (good : Good y R) (plan : List ℕ) (k : Accepts y R plan) (i : ℕ) (hi : i < entries y plan) where
  abbrev g : ℕ
  g = group_named y plan i

  abbrev c : ℕ
  c = content_named y plan i

  hg : g < all_groups y
  hg = k.group_lt i hi

  hc : c < contents y
  hc = k.content-lt i hi

  -- the plan of whatever group came before can be changed into it
  pub entry_solvable : (last : Survey) → Surveying y last → (flags : List Bool) → LeavesSources y plan i flags
      → Right last.plan × Solvable last.plan.n last.plan.k (flag flags)
  entry_solvable last w flags left =
      let f = plan_solvable y R plan k v i hi in
      let e : count (flag flags) (last.plan.n + last.plan.k) ≡ count (unused y plan i) (contents y) =
      (λ j. count (flag flags) (w.n_is j + w.k_is j)) ∙ count_same (flag flags) (unused y plan i) (contents y) left in (
        w.right,
        record {
          data_max = omega (arith, w.n_is, f.data_max);
          parity_max = omega (arith, w.k_is, f.parity_max);
          few = omega (arith, e, f.few, w.k_is);
        },
      )

  module _ (Q : Plan) (q : EntryPlan y R plan i Q) where
    pub entry_fits : (size : ℕ) → size ≡ image_length y → Fits Q size
    entry_fits size e =
        record {
          right = q.right;
          u-max = omega (arith, q.u_is, v.few_bytes);
          inside = λ c h.
              let b : c < contents y = omega (arith, q.n_is, q.k_is) in
              omega (arith, (placed y v R R.k good.few).inside g c hg b, q.at_is c b, q.u_is, e);
        }

    -- what it gives of a content is what the entry rebuilds: a source, which is present, has its home under the whole list already
    entry-held : (img : List ℕ) (o c : ℕ) → c < contents y → held Q img o c ≡ entry_byte y R plan i img g o c
    unfolding held entry_byte column stored
    entry-held img o c h =
        (λ j. rebuilt (q.n_is j) (q.k_is j) (miss_of Q) (column Q img o) c)
        ∙ missing_same y.n y.k (miss_of Q) (unused y plan i) q.flags_are (column Q img o) c h
        ∙ rebuilt_cong y.n y.k (unused y plan i) (plan_solvable y R plan k v i hi) (column Q img o) (stored y R img g o)
        (λ u b t. ap (λ (x : ℕ). get_or img x 0)
        (ap (λ (a : ℕ). a + o) (q.at_is u b) ∙ spot_plus y g (home y R R.k g u) o
        ∙ ap (λ (w : ℕ). spot y g w o) (home_stays y v R g good.mended u (used-present y R plan k i u hi t)))) c h

    module _ (homes : List ℕ) (new : StartsUnder y R R.k g homes) where
      -- the homes under the whole list lie in the image, and no two meet
      pub entry_mend_fits : (size : ℕ) → size ≡ image_length y → MendFits Q homes size
      entry_mend_fits size e =
          record {
            inside = λ c h t. let b = content c h in omega (arith, (placed y v R R.k good.few).inside g c hg b, new c b, q.u_is, e);
            apart = λ c d x z hc hd hx hz m.
                sym (own c x (content c hc) (omega (arith, q.u_is))) ∙ ap (content_here y R R.k) m ∙ own d z (content d hd) (omega (arith, q.u_is));
            stays = λ d h t. let b = content d h in new d b ∙ sym (q.at_is d b);
          }
        where
          content : (c : ℕ) → c < Q.n + Q.k → c < contents y
          content c h = omega (arith, q.n_is, q.k_is)

          own : (c x : ℕ) → c < contents y → x < y.u → content_here y R R.k (get_or homes c 0 + x) ≡ c
          own c x h b = ap (λ (z : ℕ). content_here y R R.k (z + x)) (new c h) ∙ (placed y v R R.k good.few).own_at g c x hg h b

      -- the content that the entry names, which is missing and so no source, rebuilt within the image
      pub entry-run : (img img' : List ℕ) → length img ≡ image_length y
          → img' ≡ pick (miss_of Q c) (run_set (get_or homes c 0) Q.u (held_run Q img 0 c) img) img → img' ≡ entry_image y R plan i img
      unfolding held_run
      entry-run img img' len e =
          entry-laid y R plan img img' i v good.few hg hc len
          (record {
            same = ap length run ∙ length-run_set start Q.u _ img;
            hit = λ o h.
                ap (at img') (sym (byte o))
                ∙ ap (λ (l : List ℕ). get_or l (start + o) 0) run
                ∙ run_set_in start Q.u _ img o (omega (arith, q.u_is)) inside
                ∙ ap (λ (z : ℕ). held Q img z c) (let z : 0 + o ≡ o = omega arith in z)
                ∙ entry-held img o c hc;
            miss = λ x h out.
                ap (λ (l : List ℕ). get_or l x 0) run
                ∙ run_set_out start Q.u _ img x h
                (within_cases start Q.u x
                (λ p r. let d = le_dest p in absurd (out d.0 (omega (arith, d.1, q.u_is)) (sym d.1 ∙ byte d.0)))
                (λ w. w));
          })
        where
          start : ℕ
          start = get_or homes c 0

          run : img' ≡ run_set start Q.u (held_run Q img 0 c) img
          run = e ∙ pick_true (miss_of Q c) _ img (q.flags_are c hc ∙ missing-unused y R plan k i c hi (k.is_missing i hi))

          byte : (o : ℕ) → start + o ≡ spot y g (home y R R.k g c) o
          byte o = ap (λ (a : ℕ). a + o) (new c hc) ∙ spot_plus y g (home y R R.k g c) o

          inside : start + Q.u ≤ length img
          inside = omega (arith, (placed y v R R.k good.few).inside g c hg hc, new c hc, len, q.u_is)

  -- such a plan is made of the homes under the whole list
  pub entry-planned : (last : Survey) → Surveying y last → (homes : List ℕ) → StartsUnder y R R.k (group_named y plan i) homes → (flags : List Bool) → LeavesSources y plan i flags
      → (Q : Plan) → Planned last.plan.n last.plan.k last.plan.u homes flags Q → EntryPlan y R plan i Q
  entry-planned last w homes new flags left Q p =
      record {
        n_is = p.n_is ∙ w.n_is;
        k_is = p.k_is ∙ w.k_is;
        u_is = p.u_is ∙ w.u_is;
        at_is = λ c b. ap (λ (l : List ℕ). get_or l c 0) p.at_is ∙ new c b;
        flags_are = λ u b. p.flags_are u (omega (arith, w.n_is, w.k_is)) ∙ left u b;
        right = p.right;
      }
