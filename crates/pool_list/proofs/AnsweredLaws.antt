-- Which range is answered: "the first range that earns" the number.
use Rattle.std.specs.Prelude.{◌≡◌, Bool, List, ℕ, ◌-◌, ◌≤◌, ◌<◌, eqb, leb, length}
use Rattle.std.proofs.Common.{sym, ap, ◌∙◌, arith}
use Rattle.std.proofs.Math.Path.{subst⁻¹}
use Rattle.std.proofs.Math.Bool.{false}
use borrow.Author.Tests.{eqb-true, eq-eqb, leb-true, le-leb}
use Rattle.lists.specs.Pick.{pick, pick_true, pick-false, both, both_true, not-both_ways}
use Rattle.lists.specs.Search.{all}
use Rattle.lists.specs.First.{FirstFailing, lowest_fails}
use Rattle.numbers.specs.declared.Layout.{Layout}
use Rattle.homes.specs.declared.Record.{Record}
use Rattle.pool.specs.Asked.{Sound, sound-passes, pool_passed}
use Rattle.pool_list.specs.Ranges.{inside_alone, list_tests, list_refusal, list_range}
use Rattle.pool_list.specs.Asked.{alone_by}
use Rattle.pool_list.specs.Answered.{FirstRefused, four_of_range}

module _ (y : Layout) (R : Record) (len : ℕ) (rs : List (List ℕ)) (room : ℕ) where
  earned : Sound y R len → (m : ℕ) → 0 < m → FirstFailing (inside_alone y rs) (length rs) m → FirstRefused y R len rs 4 m
  earned s m h f =
      record {
        some = h;
        one_of = let q = (f.here (m - 1) (omega (arith, h))).0 in omega (arith, q, h);
        before = λ i b. alone_by y R len rs s i ∙ ap (λ (t : Bool). pick t 0 4) (f.before i b);
        here = λ i q. alone_by y R len rs s i ∙ ap (λ (t : Bool). pick t 0 4) (f.here i q).1;
      }

  -- with 4 and no more than 64 ranges
  pub range_with_4 : list_refusal y R len rs room ≡ 4 → length rs ≤ 64 → FirstRefused y R len rs 4 (list_range y R len rs room)
  unfolding list_refusal list_range
  range_with_4 e few =
      let t = le-leb (length rs) 64 few in
      let s = pool_passed y R len (list_tests y rs room) (omega (arith, e)) in
      let some = four_of_range (leb (length rs) 64) (all (inside_alone y rs) (length rs)) _ (sym (sound-passes y R len s (list_tests y rs room)) ∙ e) t in
      subst⁻¹ (FirstRefused y R len rs 4)
      (pick_true (both (leb (length rs) 64) (eqb (list_refusal y R len rs room) 4)) _ 0 (pick_true (leb (length rs) 64) _ false t ∙ eq-eqb (list_refusal y R len rs room) 4 e))
      (earned s _ (omega arith) (lowest_fails (inside_alone y rs) (length rs) some))

  -- "for numbers 1, 2, 3, 5 and for too many ranges the range given is 0", as where nothing is refused
  pub range_without_4 : (list_refusal y R len rs room ≡ 4 → 64 < length rs) → list_range y R len rs room ≡ 0
  unfolding list_range
  range_without_4 f =
      pick-false (both (leb (length rs) 64) (eqb (list_refusal y R len rs room) 4)) _ 0
      (not-both_ways _
      (λ t.
      let p = both_true (leb (length rs) 64) (eqb (list_refusal y R len rs room) 4) t in
      let few = leb-true (length rs) 64 p.0 in
      let many = f (eqb-true (list_refusal y R len rs room) 4 p.1) in
      omega (arith, few, many)))
