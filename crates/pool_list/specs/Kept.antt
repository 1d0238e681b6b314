-- What each write of a list keeps, the list keeps: so its laws are those of its writes.
use Rattle.std.specs.Prelude.{◌≡◌, eqb, leb}
use Rattle.std.proofs.Math.Path.{refl, ap}
use Rattle.std.proofs.Common.{◌∙◌}
use Rattle.std.proofs.Math.Bool.{not}
use mathlib.Core.List.{List}
use Prim.Native.Nat.{ℕ, zero, suc, ◌<◌}
use Rattle.std.proofs.Math.ListN.{length}
use Rattle.lists.specs.Pick.{pick, both}
use Rattle.lists.specs.Search.{lowest}
use Rattle.lists.specs.Refusal.{grant}
use Rattle.numbers.specs.declared.Layout.{Layout}
use Rattle.homes.specs.declared.Record.{Record}
use Rattle.pool.specs.Writing.{write_image}
use Rattle.pool.specs.Changes.{Written}
use Rattle.pool.specs.Unread.{Alike}
use Rattle.pool.proofs.UnreadLaws.{tests_same, write_unread}
use Rattle.pool_list.specs.Ranges.{range_offset, range_size, range_bytes, inside_alone, list_tests, list_refusal, list_range, after_ranges, list_image}

-- one of the ranges is written at image byte x
pub record WrittenByOne (y : Layout) (R : Record) (rs : List (List ℕ)) (x : ℕ) : Type 0 where
  pub range : ℕ
  pub one_of : range < length rs
  pub is : Written y R (range_offset rs range) (range_size rs range) x

-- ---- "entries from k on are never read"

module _ (y : Layout) (R R' : Record) (alike : Alike R R') where
  pub list_number_unread : (len : ℕ) (rs : List (List ℕ)) (room : ℕ) → list_refusal y R len rs room ≡ list_refusal y R' len rs room
  unfolding list_refusal
  list_number_unread len rs room = tests_same y R R' alike len (list_tests y rs room)

  pub range_given_unread : (len : ℕ) (rs : List (List ℕ)) (room : ℕ) → list_range y R len rs room ≡ list_range y R' len rs room
  unfolding list_range
  range_given_unread len rs room =
      ap (λ (n : ℕ). pick (both (leb (length rs) 64) (eqb n 4)) (suc (lowest (λ i. not (inside_alone y rs i)) (length rs))) 0) (list_number_unread len rs room)

  after_unread : (img : List ℕ) (rs : List (List ℕ)) (bytes : List ℕ) (n : ℕ) → after_ranges y R img rs bytes n ≡ after_ranges y R' img rs bytes n
  unfolding after_ranges
  after_unread img rs bytes zero = refl
  after_unread img rs bytes (suc n) =
      ap (λ (now : List ℕ). write_image y R now (range_offset rs n) (range_bytes rs bytes n)) (after_unread img rs bytes n)
      ∙ write_unread y R R' alike (after_ranges y R' img rs bytes n) (range_offset rs n) (range_bytes rs bytes n)

  pub list_unread : (img : List ℕ) (rs : List (List ℕ)) (bytes : List ℕ) → list_image y R img rs bytes ≡ list_image y R' img rs bytes
  unfolding list_image
  list_unread img rs bytes = λ i. grant (list_number_unread (length img) rs (length bytes) i) (after_unread img rs bytes (length rs) i) img
