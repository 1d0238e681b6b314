-- The pass over one window, as the code makes it: what is asked for it, and what its turns and its ends show.
use Rattle.std.specs.Prelude.{◌≡◌, true, false, List, ◌++◌, ℕ, suc, ◌+◌, ◌-◌, ◌*◌, ◌/◌, ◌%◌, ◌<◌, ◌≤◌, length, set, drop, replicate, Option, Some, None}
use Rattle.std.proofs.Common.{sym, ap, ap₂, ◌∙◌, le_of_suc-le-suc, mul-zero, mul-suc, mul-pos, length-drop, length-append, arith, eq-eqb, ne_eqb}
use Rattle.std.proofs.Math.Path.{subst⁻¹}
use Rattle.std.proofs.Math.Nat.{lt_of_mul-lt-mul_left}
use Rattle.std.proofs.lemmas.List.{get_or-replicate, length-replicate}
use Rattle.lists.specs.Pick.{equal_or_not}
use Rattle.lists.specs.Tabulate.{at}
use Rattle.numbers.specs.declared.Layout.{Layout}
use Rattle.numbers.specs.declared.Shape.{Shape}
use Rattle.numbers.specs.Layouts.{Valid, all_groups}
use Rattle.numbers.specs.Shapes.{groups_pos}
use Rattle.numbers.specs.Answers.{Shaped}
use Rattle.homes.specs.declared.Record.{Record}
use Rattle.homes.specs.Records.{Good}
use Rattle.proposal.specs.Plans.{entry_size, entries, group_named}
use Rattle.proposal.specs.Accepted.{entry_good}
use Rattle.proposal_check.specs.Checked.{entries_good}
use Rattle.proposal_check.specs.Marks.{weight_of, mark_few, weight_some}
use Rattle.proposal_check.specs.Windows.{in_window, window_good, rank_named, marked, Passed, windows_join}
use Rattle.proposal_check.specs.Windows.{passed_begin, passed_end, passed_by, passed_in, outside_fails, entry_fails, mark_found, rank_small}
use Rattle.proposal_check.specs.Entry.{IsEntry, entry_cut, rest_here, rank_if_good, rank_good, rank_bad, group_here_lem}

-- a plan of whole entries, and window w of 65,536 groups, which has some group of the pool
pub record Asked (y : Layout) (s : Shape) (R : Record) (groups : ℕ) (plan : List ℕ) (w : ℕ) : Type 0 where
  pub valid : Valid y
  pub shape : Shaped y s
  pub good : Good y R
  pub groups_are : groups ≡ all_groups y
  pub few : groups ≤ 4194304
  pub whole : entry_size y * entries y plan ≡ length plan
  pub begins : 65536 * w < groups

-- where so much of the plan is left, from an entry on: the entries before it have passed
pub record Passing (y : Layout) (R : Record) (plan : List ℕ) (w : ℕ) (left marks : List ℕ) : Type 0 where
  pub done : ℕ
  pub here : left ≡ drop (entry_size y * done) plan
  pub passed : Passed y R plan 65536 w done marks

module _ (y : Layout) (s : Shape) (R : Record) (groups : ℕ) (plan : List ℕ) (w : ℕ) (a : Asked y s R groups plan w) where
  pub pass_begin : (left : List ℕ) → left ≡ plan → Passing y R plan w left (replicate 65536 0)
  pass_begin left e =
      record {
        done = 0;
        here = e ∙ sym (ap (λ (n : ℕ). drop n plan) (mul-zero (entry_size y)));
        passed = passed_begin y R plan 65536 w (replicate 65536 0) (length-replicate {A = ℕ} 65536 0) (λ x h. get_or-replicate 65536 x 0 0 h);
      }

  module _ (left marks : List ℕ) (p : Passing y R plan w left marks) where
    left_long : length left ≡ length plan - entry_size y * p.done
    left_long = ap length p.here ∙ length-drop (entry_size y * p.done) plan

    pub pass_end : length left < entry_size y → window_good y R plan 65536 w ≡ true
    pass_end h = passed_end y R plan 65536 w p.done marks p.passed (le_of_suc-le-suc all_done)
      where
        all_done : entries y plan < suc p.done
        all_done = lt_of_mul-lt-mul_left (entry_size y) {m = entries y plan} {n = suc p.done} (omega (arith, h, a.whole, left_long, mul-suc (entry_size y) p.done))

    module _ (entry rest : List ℕ) (cut : left ≡ entry ++ rest) (long : length entry ≡ entry_size y) where
      entry_lt : p.done < entries y plan
      entry_lt =
          lt_of_mul-lt-mul_left (entry_size y) {m = p.done} {n = entries y plan}
          (omega (arith, a.whole, left_long, ap length cut, length-append entry rest, long))

      is_entry : IsEntry y plan p.done entry
      is_entry = entry_cut y plan p.done left entry rest p.here cut long

      next_here : rest ≡ drop (entry_size y * (p.done + 1)) plan
      next_here = rest_here y plan p.done left entry rest p.here cut long

      named : at entry 0 ≡ group_named y plan p.done
      named = group_here_lem y R plan p.done entry is_entry

      -- an entry that names no group of the pool
      pub pass_outside : groups ≤ at entry 0 → window_good y R plan 65536 w ≡ false
      pass_outside l = outside_fails y R plan 65536 w p.done entry_lt (omega (arith, l, named, a.groups_are))

      -- one of another window
      pub pass_by : at entry 0 < groups → (at entry 0 / 65536 ≡ w → ⊥) → Passing y R plan w rest marks
      pass_by l out =
          record {
            done = p.done + 1;
            here = next_here;
            passed = passed_by y R plan 65536 w p.done marks p.passed (omega (arith, l, named, a.groups_are))
                (ne_eqb (group_named y plan p.done / 65536) w (λ q. out (ap (λ (g : ℕ). g / 65536) named ∙ q)));
          }

      -- one of this window, of which the code has worked out the rank
      module _ (t : at entry 0 / 65536 ≡ w) where
        inside : in_window y plan 65536 w p.done ≡ true
        inside = eq-eqb (group_named y plan p.done / 65536) w (ap (λ (g : ℕ). g / 65536) (sym named) ∙ t)

        -- it is not good
        pub pass_bad : (answer : Option ℕ) → answer ≡ None → ((list : List ℕ) (e : ℕ) → IsEntry y list e entry → answer ≡ rank_if_good y R list e)
            → window_good y R plan 65536 w ≡ false
        pass_bad answer none told =
            entry_fails y R plan 65536 w p.done entry_lt inside (rank_bad y R plan p.done (sym none ∙ told plan p.done is_entry))

        module _ (rank : ℕ) (answer : Option ℕ) (some-rank : answer ≡ Some rank)
            (told : (list : List ℕ) (e : ℕ) → IsEntry y list e entry → answer ≡ rank_if_good y R list e) (weight : ℕ) (is : weight ≡ weight_of rank) where
          good : (entry_good y R plan p.done ≡ true) × (rank ≡ rank_named y R plan p.done)
          good = rank_good y R plan p.done rank (sym some-rank ∙ told plan p.done is_entry)

          small : rank < 3
          small = omega (arith, good.1, rank_small y R plan 65536 w p.done marks p.passed a.valid a.good (omega arith) inside good.0)

          -- a bit of a mark, which has room for it
          pub weight_fits : (0 < weight) × (at marks (at entry 0 % 65536) + weight ≤ 11)
          weight_fits =
              let some = weight_some rank small in
              let mark = p.passed.marks_are (at entry 0 % 65536) (omega arith) in
              (omega (arith, is, some.0), omega (arith, is, some.1, mark, mark_few (marked y R plan p.done (65536 * w + at entry 0 % 65536))))

          same_bit : (at marks (at entry 0 % 65536) / weight) % 2 ≡ (at marks (group_named y plan p.done % 65536) / weight_of (rank_named y R plan p.done)) % 2
          same_bit = ap₂ (λ (g x : ℕ). (at marks (g % 65536) / x) % 2) named (is ∙ ap weight_of good.1)

          -- its content is named before
          pub pass_twice : (at marks (at entry 0 % 65536) / weight) % 2 ≡ 1 → window_good y R plan 65536 w ≡ false
          pass_twice q =
              mark_found y R plan 65536 w p.done marks p.passed a.valid a.good (omega arith) inside good.0 entry_lt (sym same_bit ∙ q)

          -- or not, and is now
          pub pass_in : ((at marks (at entry 0 % 65536) / weight) % 2 ≡ 1 → ⊥)
              → Passing y R plan w rest (set marks (at entry 0 % 65536) (at marks (at entry 0 % 65536) + weight))
          pass_in q =
              record {
                done = p.done + 1;
                here = next_here;
                passed =
                    subst⁻¹ (λ (l : List ℕ). Passed y R plan 65536 w (p.done + 1) l) same_marks
                    (passed_in y R plan 65536 w p.done marks p.passed a.valid a.good (omega arith) inside good.0 (λ z. q (same_bit ∙ z)));
              }
            where
              same_marks : set marks (at entry 0 % 65536) (at marks (at entry 0 % 65536) + weight)
                  ≡ set marks (group_named y plan p.done % 65536) (at marks (group_named y plan p.done % 65536) + weight_of (rank_named y R plan p.done))
              same_marks = ap₂ (λ (g x : ℕ). set marks (g % 65536) (at marks (g % 65536) + x)) named (is ∙ ap weight_of good.1)

-- ---- one window after another

module _ (y : Layout) (R : Record) (plan : List ℕ) (w : ℕ) (good : (k : ℕ) → k < w → window_good y R plan 65536 k ≡ true) where
  pub window_next : window_good y R plan 65536 w ≡ true → (k : ℕ) → k < w + 1 → window_good y R plan 65536 k ≡ true
  window_next t k h =
      equal_or_not k w (λ (q : k ≡ w). ap (window_good y R plan 65536) q ∙ t) (λ (ne : k ≡ w → ⊥). good k (omega arith))

  -- no group is beyond the last
  pub windows_end : Valid y → all_groups y ≤ 65536 * w → entries_good y R plan ≡ true
  windows_end v cover =
      windows_join y R plan 65536 w (omega arith) (omega (arith, cover, mul-pos (groups_pos y v) v.some_tiles)) cover good
