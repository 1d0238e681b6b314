-- The promise of the call from its parts: how each of its returns keeps it.
use Rattle.std.specs.Prelude.{◌≡◌, true, List, ℕ, ◌≤◌, ◌<◌, eqb, leb, length}
use Rattle.std.proofs.Math.Path.{sym}
use Rattle.std.proofs.Common.{ap, ◌∙◌, arith}
use Rattle.std.proofs.Math.Bool.{false}
use borrow.Author.Tests.{ne_eqb, eq-eqb, le-leb, lt-leb}
use Rattle.lists.specs.Pick.{pick_true, pick-false, both, both_off, not-both_ways}
use Rattle.lists.specs.Count.{sum}
use Rattle.lists.specs.Search.{all, all_true}
use Rattle.lists.specs.First.{first_failing, failing_lowest, all_pass}
use Rattle.lists.specs.Refusal.{◌or_else◌, refusal_by}
use Rattle.numbers.specs.declared.Layout.{Layout}
use Rattle.homes.specs.declared.Record.{Record}
use Rattle.pool.specs.Refusals.{repair_refusal}
use Rattle.pool.specs.Asked.{Sound, sound-passes, repair_number}
use Rattle.checks.specs.Tests.{refused_first}
use Rattle.pool_list.specs.Ranges.{range_size, inside_alone, list_tests, list_refusal, list_range, after_ranges, list_image, WritesList}
use Rattle.pool_list.specs.Asked.{ListAsked}
use Rattle.pool_list.proofs.StepsLaws.{image_refused, image_accepted}

module _ (y : Layout) (R : Record) (img : List ℕ) (rs : List (List ℕ)) (bytes : List ℕ) where
  abbrev number : ℕ
  number = list_refusal y R (length img) rs (length bytes)

  kept : {n : ℕ} → n ≡ number → (n ≡ 0 → ⊥) → img ≡ list_image y R img rs bytes
  kept e f = sym (image_refused y R img rs bytes (λ z. f (e ∙ z)))

  -- no range is answered with another number than 4
  no_range : {n : ℕ} → n ≡ number → (n ≡ 4 → ⊥) → 0 ≡ list_range y R (length img) rs (length bytes)
  unfolding list_range
  no_range e f =
      sym (pick-false (both (leb (length rs) 64) (eqb number 4)) _ 0 (ap (both (leb (length rs) 64)) (ne_eqb number 4 (λ z. f (e ∙ z))) ∙ both_off (leb (length rs) 64)))

  -- by what every call tests first
  pub lists_refused : (n : ℕ) → n ≡ repair_refusal y R (length img) → (n ≡ 0 → ⊥) → WritesList y R img rs bytes n 0 img
  unfolding list_refusal
  lists_refused n e f =
      let r = refused_first y R (length img) (list_tests y rs (length bytes)) e f in
      record { answer = r; first = no_range r (λ z. omega (arith, z, e, repair_number y R (length img))); image = kept r f }

  -- then the list's own tests decide
  module _ (s : Sound y R (length img)) where
    own : number ≡ refusal_by (list_tests y rs (length bytes))
    unfolding list_refusal
    own = sound-passes y R (length img) s (list_tests y rs (length bytes))

    pub lists_many : 64 < length rs → WritesList y R img rs bytes 4 0 img
    unfolding list_range refusal_by ◌or_else◌
    lists_many h =
        let few = lt-leb (length rs) 64 h in
        let r : 4 ≡ number = sym (own ∙ simp few) in
        record {
          answer = r;
          first = sym (pick-false (both (leb (length rs) 64) (eqb number 4)) _ 0 (pick-false (leb (length rs) 64) _ false few));
          image = kept r (λ z. omega (arith, z));
        }

    module _ (h : length rs ≤ 64) where
      few : leb (length rs) 64 ≡ true
      few = le-leb (length rs) 64 h

      pub lists_outside : (range : ℕ) → range ≡ first_failing (inside_alone y rs) (length rs) → (range ≡ 0 → ⊥) → WritesList y R img rs bytes 4 range img
      unfolding list_range refusal_by ◌or_else◌
      lists_outside range e f =
          let out : all (inside_alone y rs) (length rs) ≡ false =
          not-both_ways (all (inside_alone y rs) (length rs)) (λ t. f (e ∙ all_pass (inside_alone y rs) (length rs) t)) in
          let r : 4 ≡ number = sym (own ∙ simp (few, out)) in
          record {
            answer = r;
            first =
                e ∙ failing_lowest (inside_alone y rs) (length rs) out
                ∙ sym (pick_true (both (leb (length rs) 64) (eqb number 4)) _ 0 (pick_true (leb (length rs) 64) _ false few ∙ eq-eqb number 4 (sym r)));
            image = kept r (λ z. omega (arith, z));
          }

      pub lists_wrong-sum : ((i : ℕ) → i < length rs → inside_alone y rs i ≡ true) → (length bytes ≡ sum (range_size rs) (length rs) → ⊥)
          → WritesList y R img rs bytes 5 0 img
      unfolding refusal_by ◌or_else◌
      lists_wrong-sum each f =
          let r : 5 ≡ number =
          sym (own ∙ simp (few, all_true (inside_alone y rs) (length rs) each, ne_eqb (length bytes) (sum (range_size rs) (length rs)) f)) in
          record { answer = r; first = no_range r (λ z. omega (arith, z)); image = kept r (λ z. omega (arith, z)) }

  pub lists_accepted : ListAsked y R (length img) rs (length bytes) → number ≡ 0
  unfolding refusal_by ◌or_else◌
  lists_accepted a =
      own a.sound
      ∙ simp (le-leb (length rs) 64 a.few, all_true (inside_alone y rs) (length rs) a.each, eq-eqb (length bytes) (sum (range_size rs) (length rs)) a.exact)

  pub lists_written : ListAsked y R (length img) rs (length bytes) → (img' : List ℕ) → img' ≡ after_ranges y R img rs bytes (length rs)
      → WritesList y R img rs bytes 0 0 img'
  lists_written a img' e =
      let z = lists_accepted a in
      record { answer = sym z; first = no_range (sym z) (λ w. omega (arith, w)); image = e ∙ sym (image_accepted y R img rs bytes z) }
