-- Repair of a group by its plan is repair by the pool's definitions, and group after group comes to the whole.
use Rattle.std.specs.Prelude.{◌≡◌, refl, List, ℕ, ◌+◌, ◌≤◌, ◌<◌, length, get_or}
use Rattle.std.proofs.Math.Path.{sym, ap}
use Rattle.std.proofs.Common.{◌∙◌, arith}
use Rattle.lists.specs.Pick.{clash}
use Rattle.lists.specs.Count.{count, sum, count_same, count-zero, sum_next}
use Rattle.lists.specs.Refusal.{grant_yes, grant_no}
use Rattle.lists.specs.Between.{between_in}
use Rattle.lists.specs.Lays.{lays_none}
use Rattle.lists.specs.Sweep.{byte_after, upto-none, upto_done, sweep_step}
use Rattle.numbers.specs.declared.Layout.{Layout}
use Rattle.numbers.specs.Layouts.{Valid, contents, all_groups, image_length}
use Rattle.place.specs.Bytes.{spot, offset_here}
use Rattle.homes.specs.declared.Record.{Record}
use Rattle.homes.specs.Records.{Good}
use Rattle.homes.specs.Missing.{home, missing}
use Rattle.pool.specs.Counting.{missing_pairs, missing_units}
use Rattle.homes.proofs.MissingLaws.{few-missing, home_stays}
use Rattle.plan.specs.declared.Plan.{Plan}
use Rattle.plan.specs.Plans.{miss_of, Fits}
use Rattle.runs.specs.Steps.{fits_at}
use Rattle.groups.specs.Mend.{group_mended, MendFits, mend_at, mend_lays}
use Rattle.survey.specs.Starts.{StartsUnder}
use Rattle.survey.specs.Surveyed.{Surveyed, spot_plus, fits, apart, held_is}
use Rattle.survey.specs.Placing.{start_of, group_here, content_here, placed}
use Rattle.pool.specs.Asked.{Sound, repair_asked}
use Rattle.pool.specs.Blind.{content_local}
use Rattle.pool.specs.Calls.{Repairs}
use Rattle.pool.specs.Contents.{stored}
use Rattle.pool.specs.Refusals.{repair_refusal}
use Rattle.pool.specs.Repairing.{mended, mended_image, repair_image, repair_record, repair_count}
use Rattle.pool.specs.Storing.{storing, cell_after}
use Rattle.pool_repair.specs.Mending.{GroupMended, mends_at, mended_at, MendedBelow}

-- ---- one group

module _ (y : Layout) (v : Valid y) (R : Record) (good : Good y R) (g : ℕ) (hg : g < all_groups y) (P : Plan) (s : Surveyed y R R.q g P) (starts : List ℕ)
    (new : StartsUnder y R R.k g starts) where
  -- the plan of the same group with the homes under the whole list
  abbrev moved : Plan
  moved =
      record {
        n = P.n;
        k = P.k;
        u = P.u;
        gone = P.gone;
        at = starts;
        missing = P.missing;
        rank = P.rank;
        slots = P.slots;
        rows = P.rows;
        codes = P.codes;
      }

  moved_surveyed : Surveyed y R R.k g moved
  moved_surveyed =
      let r = s.right in
      record {
        n_is = s.n_is;
        k_is = s.k_is;
        u_is = s.u_is;
        at_is = new;
        flags_are = s.flags_are;
        right =
            record {
              solvable = r.solvable;
              ranks = r.ranks;
              slots_are = r.slots_are;
              rows_are = r.rows_are;
              codes_are = r.codes_are;
              gone_is = r.gone_is;
            };
      }

  -- the new homes lie in the image and no two meet; a present content stays where it is
  new-inside : (c : ℕ) → c < P.n + P.k → get_or starts c 0 + P.u ≤ image_length y
  new-inside = (fits y v R good R.k good.few g hg moved moved_surveyed).inside

  new_fits : MendFits P starts (image_length y)
  new_fits =
      record {
        inside = λ c h t. new-inside c h;
        apart = (apart y v R good R.k good.few g hg moved moved_surveyed).apart;
        stays = λ d h t.
            let b : d < contents y = omega (arith, s.n_is, s.k_is) in
            new d b
            ∙ ap (λ (u : ℕ). spot y g u 0) (home_stays y v R g good.mended d (sym (s.flags_are d b) ∙ t))
            ∙ sym (s.at_is d b);
      }

  pub group_fits : (size : ℕ) → size ≡ image_length y → Fits P size × MendFits P starts size
  group_fits size e = (fits_at (fits y v R good R.q (omega (arith, good.mended, good.few)) g hg P s) e, mend_at new_fits e)

  pub mended_group : (img img' : List ℕ) → length img ≡ image_length y → img' ≡ group_mended P starts img → GroupMended y R g img img'
  mended_group img img' len e =
      let l = mend_lays P starts img img' (mend_at new_fits len) e in
      record {
        same = l.same;
        hit = λ c o hc ho t.
            ap (λ (a : ℕ). get_or img' (a + o) 0) (sym (new c hc))
            ∙ l.hit c o (omega (arith, s.n_is, s.k_is)) (omega (arith, s.u_is)) (s.flags_are c hc ∙ t)
            ∙ held_is y v R good g P s img o c hc;
        miss = λ x h w.
            l.miss x h
            (λ c o hc ho t q.
            let b : c < contents y = omega (arith, s.n_is, s.k_is) in
            w c o b (omega (arith, s.u_is)) (sym (s.flags_are c b) ∙ t) (q ∙ ap (λ (a : ℕ). a + o) (new c b)));
      }

module _ (y : Layout) (v : Valid y) (R : Record) (good : Good y R) (g : ℕ) (P : Plan) (s : Surveyed y R R.q g P) where
  -- how many are missing
  pub gone-here : P.gone ≡ count (missing y R g) (contents y)
  gone-here = s.right.gone_is ∙ (λ i. count (miss_of P) (s.n_is i + s.k_is i)) ∙ count_same (miss_of P) (missing y R g) (contents y) s.flags_are

  -- where none is, the group is as it should be
  pub nothing_to_mend : P.gone ≡ 0 → (img : List ℕ) → GroupMended y R g img img
  nothing_to_mend e img =
      lays_none (contents y) y.u (start_of y R R.k g) (mends_at y R g) (mended_at y R img g) img
      (λ c o hc ho t. clash (missing y R g c) t (count-zero (missing y R g) (contents y) (sym gone-here ∙ e) c hc))

  pub few-gone : P.gone ≤ 3
  few-gone = omega (arith, gone-here, few-missing y v R g good, v.few_parity)

-- ---- group after group

-- what is rebuilt hangs on the column alone: present contents stand where they stood
mended_local : (y : Layout) (v : Valid y) (R : Record) (good : Good y R) (g : ℕ) (img other : List ℕ) (c o : ℕ) → c < contents y
    → ((d : ℕ) → d < contents y → get_or img (start_of y R R.k g d + o) 0 ≡ get_or other (start_of y R R.k g d + o) 0)
    → mended_at y R img g c o ≡ mended_at y R other g c o
unfolding stored
mended_local y v R good g img other c o hc same =
    content_local y R img other v good g o
    (λ d b m.
    let here : spot y g (home y R R.q g d) o ≡ start_of y R R.k g d + o =
    ap (λ (u : ℕ). spot y g u o) (sym (home_stays y v R g good.mended d m)) ∙ sym (spot_plus y g (home y R R.k g d) o) in
    ap (λ (x : ℕ). get_or img x 0) here ∙ same d b ∙ sym (ap (λ (x : ℕ). get_or other x 0) here)) c hc

pub mend_begin : (y : Layout) (R : Record) (img : List ℕ) → Sound y R (length img) → MendedBelow y R img 0 0 img
unfolding sum
mend_begin y R img sound =
    record {
      sound = sound;
      same = refl;
      done = λ x h.
          upto-none (all_groups y) (contents y) y.u (image_length y) (start_of y R R.k) (group_here y) (content_here y R R.k) (offset_here y)
          (placed y sound.valid R R.k sound.good.few) (mends_at y R) (mended_at y R) 0 img x;
      pairs = refl;
      few = omega arith;
    }

module _ (y : Layout) (R : Record) (img₀ : List ℕ) (g n : ℕ) (img : List ℕ) (b : MendedBelow y R img₀ g n img) where
  abbrev v : Valid y
  v = b.sound.valid

  abbrev good : Good y R
  good = b.sound.good

  pub mend_turn : (gone : ℕ) (img' : List ℕ) → g < all_groups y → gone ≡ count (missing y R g) (contents y) → GroupMended y R g img img'
      → MendedBelow y R img₀ (g + 1) (n + gone) img'
  mend_turn gone img' hg e m =
      record {
        sound = b.sound;
        same = m.same ∙ b.same;
        done =
            sweep_step (all_groups y) (contents y) y.u (image_length y) (start_of y R R.k) (group_here y) (content_here y R R.k) (offset_here y)
            (placed y v R R.k good.few) (mends_at y R) (mended_at y R) 0 g (omega arith) hg img₀ img img'
            (λ c o hc ho. mended_local y v R good g img img₀ c o hc) b.sound.len_is b.same b.done m;
        pairs = (λ i. b.pairs i + e i) ∙ sym (sum_next (λ h. count (missing y R h) (contents y)) g);
        few = omega (arith, b.few, e, few-missing y v R g good, v.few_parity);
      }

  pub mend_end : g ≡ all_groups y → (n ≡ missing_pairs y R (all_groups y)) × (img ≡ mended_image y R img₀)
  unfolding storing cell_after byte_after
  mend_end e = (
    b.pairs ∙ ap (missing_pairs y R) e,
    upto_done (all_groups y) (contents y) y.u (image_length y) (start_of y R R.k) (group_here y) (content_here y R R.k) (offset_here y)
        (placed y v R R.k good.few) (mends_at y R) (mended_at y R) 0 g img₀ img b.sound.len_is b.same
        (λ h c o hh hc ho t. between_in 0 g h (omega arith) (omega (arith, hh, e))) b.done,
  )

-- ---- the call

pub repair_sound : (y : Layout) (R : Record) (len n : ℕ) → n ≡ repair_refusal y R len → n ≡ 0 → Sound y R len
repair_sound y R len n e z = repair_asked y R len (sym e ∙ z)

module _ (y : Layout) (R : Record) (img : List ℕ) (n : ℕ) (e : n ≡ repair_refusal y R (length img)) where
  pub repair_refused : (n ≡ 0 → ⊥) → Repairs y R img n 0 R img
  unfolding repair_image repair_record repair_count
  repair_refused f =
      let no : repair_refusal y R (length img) ≡ 0 → ⊥ = λ z. f (e ∙ z) in
      record {
        answer = e;
        pairs = sym (grant_no (repair_refusal y R (length img)) _ _ no);
        rec = sym (grant_no (repair_refusal y R (length img)) _ _ no);
        image = sym (grant_no (repair_refusal y R (length img)) _ _ no);
      }

  pub repair_accepted : n ≡ 0 → (count : ℕ) (img' : List ℕ) → count ≡ missing_pairs y R (all_groups y) → img' ≡ mended_image y R img
      → Repairs y R img 0 count (mended R) img'
  unfolding repair_image repair_record repair_count missing_units
  repair_accepted z count img' ec ei =
      let yes : repair_refusal y R (length img) ≡ 0 = sym e ∙ z in
      record {
        answer = sym yes;
        pairs = ec ∙ sym (grant_yes (repair_refusal y R (length img)) _ _ yes);
        rec = sym (grant_yes (repair_refusal y R (length img)) _ _ yes);
        image = ei ∙ sym (grant_yes (repair_refusal y R (length img)) _ _ yes);
      }
