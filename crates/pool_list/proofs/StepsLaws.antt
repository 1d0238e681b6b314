-- What the loops of the call go by: each range's part of the buffer, and one range more.
use Rattle.std.specs.Prelude.{◌≡◌, List, length, take, drop}
use Rattle.std.proofs.Math.Path.{refl, sym}
use Rattle.std.proofs.Common.{ap, ◌∙◌, add-one, arith}
use Prim.Native.Nat.{ℕ, zero, suc, ◌+◌, ◌-◌, ◌≤◌, ◌<◌}
use Rattle.lists.specs.Pick.{pick}
use Rattle.lists.specs.Count.{sum, sum_next}
use Rattle.lists.specs.Tabulate.{at, tabulate, part_tabulated}
use Rattle.lists.specs.Refusal.{grant_yes, grant_no}
use Rattle.numbers.specs.declared.Layout.{Layout}
use Rattle.numbers.specs.Layouts.{capacity}
use Rattle.homes.specs.declared.Record.{Record}
use Rattle.pool.specs.Refusals.{range_refusal}
use Rattle.pool.specs.Writing.{written_image}
use Rattle.pool.proofs.WriteHoldsLaws.{write_length, write_accepted}
use Rattle.pool_list.specs.Ranges.{range_offset, range_size, range_bytes, list_refusal, after_ranges, list_image}
use Rattle.pool_list.specs.Asked.{inside_fits, ListAsked, alone_by}
use Rattle.pool_list.specs.Steps.{range_in_buffer, bytes_length}

module _ (y : Layout) (R : Record) (img : List ℕ) (rs : List (List ℕ)) (bytes : List ℕ) where
  pub after-length : (i : ℕ) → length (after_ranges y R img rs bytes i) ≡ length img
  unfolding after_ranges
  after-length zero = refl
  after-length (suc i) = write_length y R (after_ranges y R img rs bytes i) (range_offset rs i) (range_bytes rs bytes i) ∙ after-length i

  -- what the definition of the image says where the list is refused, and where it is accepted
  pub image_refused : (list_refusal y R (length img) rs (length bytes) ≡ 0 → ⊥) → list_image y R img rs bytes ≡ img
  unfolding list_image
  image_refused f = grant_no (list_refusal y R (length img) rs (length bytes)) (after_ranges y R img rs bytes (length rs)) img f

  pub image_accepted : list_refusal y R (length img) rs (length bytes) ≡ 0 → list_image y R img rs bytes ≡ after_ranges y R img rs bytes (length rs)
  unfolding list_image
  image_accepted z = grant_yes (list_refusal y R (length img) rs (length bytes)) (after_ranges y R img rs bytes (length rs)) img z

  module _ (a : ListAsked y R (length img) rs (length bytes)) (i : ℕ) (h : i < length rs) where
    -- "writing them one after the other": each of them is accepted in its turn
    pub each_accepted : range_refusal y R (length (after_ranges y R img rs bytes i)) (range_offset rs i) (length (range_bytes rs bytes i)) ≡ 0
    each_accepted =
        (λ k. range_refusal y R (after-length i k) (range_offset rs i) (bytes_length rs bytes i k))
        ∙ alone_by y R (length img) rs a.sound i ∙ ap (λ t. pick t 0 4) (a.each i h)

    -- the range as the code writes it: its part of the buffer begins where those before it end
    module _ (from : ℕ) (from_is : from ≡ sum (range_size rs) i) where
      pub part-ends : from + range_size rs i ≤ length bytes
      part-ends = let b = range_in_buffer rs i h in omega (arith, b, from_is, a.exact)

      pub next_from : from + range_size rs i ≡ sum (range_size rs) (i + 1)
      next_from = ap (λ (n : ℕ). n + range_size rs i) from_is ∙ sym (sum_next (range_size rs) i)

      abbrev part_here : List ℕ
      part_here = take (from + range_size rs i - from) (drop from bytes)

      part_is : part_here ≡ range_bytes rs bytes i
      part_is =
          let e : from + range_size rs i - from ≡ range_size rs i = omega arith in
          (λ k. take (e k) (drop from bytes)) ∙ part_tabulated (range_size rs i) from bytes part-ends
          ∙ ap (λ (n : ℕ). tabulate (range_size rs i) (λ k. at bytes (n + k))) from_is

      pub range_fits : range_offset rs i + length part_here ≤ capacity y
      range_fits =
          let b = inside_fits y rs i (a.each i h) in
          let e = ap length part_is ∙ bytes_length rs bytes i in
          omega (arith, b, e)

      pub range_next : (before after : List ℕ) → before ≡ after_ranges y R img rs bytes i → after ≡ written_image y R before (range_offset rs i) part_here
          → after ≡ after_ranges y R img rs bytes (i + 1)
      unfolding after_ranges
      range_next before after b w =
          w ∙ (λ k. written_image y R (b k) (range_offset rs i) (part_is k))
          ∙ sym
          (ap (after_ranges y R img rs bytes) (add-one i)
          ∙ write_accepted y R (after_ranges y R img rs bytes i) (range_offset rs i) (range_bytes rs bytes i) each_accepted)
