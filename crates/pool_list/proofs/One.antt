-- The shortest lists: one with no bytes writes nothing, and one of a single range is the write of it.
use Rattle.std.specs.Prelude.{◌≡◌, Bool, List, [], ◌∷◌, ℕ, zero, suc, ◌+◌, ◌≤◌, eqb}
use Rattle.std.proofs.Math.Path.{refl, sym, ap}
use Rattle.std.proofs.Common.{◌∙◌, ⊎_elim, arith, eqb-true, eq-eqb}
use Rattle.std.proofs.Math.Bool.{true, false}
use Rattle.std.proofs.Math.ListN.{length}
use Rattle.std.proofs.lemmas.Bool.{eqb-false}
use Rattle.lists.specs.Pick.{pick, pick_true, pick-false, both, either_way, equal_or_not}
use Rattle.lists.specs.Count.{sum}
use Rattle.lists.specs.Search.{all}
use Rattle.lists.specs.Tabulate.{at, tabulated}
use Rattle.lists.specs.Refusal.{◌or_else◌, refusal_by, refusal_none}
use Rattle.numbers.specs.declared.Layout.{Layout}
use Rattle.homes.specs.declared.Record.{Record}
use Rattle.pool.specs.Refusals.{range_tests, range_refusal, repair_refusal}
use Rattle.pool.specs.Writing.{write_image}
use Rattle.pool.specs.Asked.{pool_first}
use Rattle.pool.specs.WriteHolds.{write_refused}
use Rattle.pool.proofs.WriteHoldsLaws.{write_accepted}
use Rattle.pool.proofs.ChangesLaws.{written_none}
use Rattle.checks.specs.Tests.{range_by}
use Rattle.pool_list.specs.Ranges.{range_offset, range_size, range_bytes, inside_alone, list_tests, list_refusal, list_range, after_ranges, list_image}
use Rattle.pool_list.specs.Asked.{inside_is, ListAsked}
use Rattle.pool_list.proofs.AskedLaws.{list_asked}
use Rattle.pool_list.specs.Steps.{range_in_buffer, bytes_length}
use Rattle.pool_list.proofs.StepsLaws.{image_refused, image_accepted, each_accepted}
use Rattle.pool_list.proofs.AnsweredLaws.{range_with_4, range_without_4}

-- where the lengths' sum is 0 each length is, and a write of no bytes leaves the image
pub no_bytes : (y : Layout) (R : Record) (img : List ℕ) (rs : List (List ℕ)) → list_image y R img rs [] ≡ img
unfolding after_ranges
no_bytes y R img rs =
    equal_or_not (list_refusal y R (length img) rs 0) 0
    (λ (z : list_refusal y R (length img) rs 0 ≡ 0). image_accepted y R img rs [] z ∙ upto (list_asked y R (length img) rs 0 z) (length rs) (omega arith))
    (λ (f : list_refusal y R (length img) rs 0 ≡ 0 → ⊥). image_refused y R img rs [] f)
  where
    upto : ListAsked y R (length img) rs 0 → (n : ℕ) → n ≤ length rs → after_ranges y R img rs [] n ≡ img
    upto a zero h = refl
    upto a (suc n) h =
        let b = range_in_buffer rs n h in
        let e : range_size rs n ≡ 0 = omega (arith, b, a.exact) in
        write_accepted y R (after_ranges y R img rs [] n) (range_offset rs n) (range_bytes rs [] n) (each_accepted y R img rs [] a n h)
        ∙ written_none y R (after_ranges y R img rs [] n) (range_offset rs n) (range_bytes rs [] n) (bytes_length rs [] n ∙ e)
        ∙ upto a n (omega arith)

module _ (y : Layout) (R : Record) (img : List ℕ) (offset : ℕ) (bytes : List ℕ) where
  abbrev alone : List (List ℕ)
  alone = (offset ∷ length bytes ∷ []) ∷ []

  own-number : refusal_by (list_tests y alone (length bytes)) ≡ refusal_by (range_tests y offset (length bytes))
  unfolding all sum refusal_by ◌or_else◌
  own-number =
      by (inside_alone y alone 0) (eqb (length bytes) (0 + length bytes)) (eq-eqb (length bytes) (0 + length bytes) (omega arith))
      ∙ sym (range_by y offset (length bytes) ∙ ap (λ (t : Bool). pick t 0 4) (inside_is y alone 0))
    where
      by : (a b : Bool) → b ≡ true → refusal_by ((true, 4) ∷ (both a true, 4) ∷ (b, 5) ∷ []) ≡ pick a 0 4
      by true b e = refusal_none ((true, 4) ∷ (true, 4) ∷ (b, 5) ∷ []) (refl, (refl, (e, tt)))
      by false b e = refl

  pub one_number : list_refusal y R (length img) alone (length bytes) ≡ range_refusal y R (length img) offset (length bytes)
  unfolding list_refusal range_refusal
  one_number =
      pool_first y R (length img) (list_tests y alone (length bytes)) ∙ ap (λ (k : ℕ). repair_refusal y R (length img) or_else k) own-number
      ∙ sym (pool_first y R (length img) (range_tests y offset (length bytes)))

  pub one_range : list_range y R (length img) alone (length bytes) ≡ pick (eqb (list_refusal y R (length img) alone (length bytes)) 4) 1 0
  one_range =
      let number = list_refusal y R (length img) alone (length bytes) in
      ⊎_elim
      (λ (t : eqb number 4 ≡ true).
      let f = range_with_4 y R (length img) alone (length bytes) (eqb-true number 4 t) (omega arith) in
      let e : list_range y R (length img) alone (length bytes) ≡ 1 = omega (arith, f.some, f.one_of) in
      e ∙ sym (pick_true (eqb number 4) 1 0 t))
      (λ (t : eqb number 4 ≡ false).
      range_without_4 y R (length img) alone (length bytes) (λ e. absurd (eqb-false number 4 t e)) ∙ sym (pick-false (eqb number 4) 1 0 t))
      (either_way (eqb number 4))

  one-part : bytes ≡ range_bytes alone bytes 0
  unfolding sum
  one-part = tabulated (length bytes) (λ i. at bytes (0 + i)) bytes 0 refl (λ i b. ap (at bytes) (omega arith))

  pub one_image : list_image y R img alone bytes ≡ write_image y R img offset bytes
  unfolding after_ranges
  one_image =
      equal_or_not (list_refusal y R (length img) alone (length bytes)) 0
      (λ (z : list_refusal y R (length img) alone (length bytes) ≡ 0). image_accepted y R img alone bytes z ∙ ap (write_image y R img offset) (sym one-part))
      (λ (f : list_refusal y R (length img) alone (length bytes) ≡ 0 → ⊥).
      image_refused y R img alone bytes f ∙ sym (write_refused y R img offset bytes (λ z. f (one_number ∙ z))))
