-- Document 02, order 8: the second edition of the permutation. What holds of every permutation, bijection and distinct drives (`Placement`) and demand 3
-- (`Demand3`), is stated there once, for a layout of either edition; here is what an edition is, and that it changes neither a layout's numbers nor its file.
use Rattle.std.specs.Prelude.{◌≡◌, ◌≢◌, Bool, ℕ, ◌-◌, ◌≤◌, length, take}
use Rattle.std.proofs.Math.Path.{refl, sym, ap}
use Rattle.std.proofs.Common.{◌∙◌, le_refl, arith}
use mathlib.Core.List.{List, [], ◌∷◌}
use Rattle.lists.specs.Pick.{equal_or_not}
use Rattle.lists.specs.Tabulate.{at, tabulate, zeros}
use Rattle.lists.specs.Bijection.{Bijection}
use Rattle.lists.specs.Refusal.{◌or_else◌, refusal_by, grant, grant_no}
use Rattle.numbers.specs.declared.Layout.{Layout}
use Rattle.numbers.specs.Layouts.{Valid, block, groups, capacity, image_length}
use Rattle.numbers.specs.Answers.{numbers_of}
use Rattle.numbers.specs.Refused.{validb, valid_false}
use Rattle.numbers.specs.Editions.{other_edition, other_valid, other-other}
use Rattle.numbers.specs.Editions as E
use Rattle.tile.specs.Generator.{start_of, next_of, advanced, extra, begin_of, draw_of}
use Rattle.tile.specs.Permutation.{own, exchange, shuffle_of, permutation_of, inverse_of}
use Rattle.tile.specs.Laws.{permutation_inverse}
use Rattle.place.specs.Places.{tile_permutation}
use Rattle.place.specs.Bytes.{group_of, unit_in, byte_in, offset_of}
use Rattle.pool.specs.Refusals.{range_tests, range_refusal}
use Rattle.pool.specs.Reading.{read_out}
use Rattle.pool.specs.Files.{part, encoded, written}
use Rattle.pool_list.specs.Ranges.{list_tests, laid_ranges}
use Rattle.promises.specs.Runs.{Event, write, write_list, fail, repair, repair_by, swap, read, look, scribble, State, start, run, laid_on}
use Rattle.promises.specs.Demand3.{demand_3, file_of_run}

-- ---- what an edition is

module _ (y : Layout) (tile : ℕ) where
  -- edition 1 is document 01's permutation: the exchanges, with their own advances, from the start
  pub edition_one : y.edition ≡ 1 → tile_permutation y tile ≡ shuffle_of (y.p - 1) (start_of y.cookie tile) own
  unfolding tile_permutation permutation_of begin_of extra advanced
  edition_one e = ap (λ (d : ℕ). permutation_of d y.p y.cookie tile) e

  -- "In edition 2 the generator is advanced four extra times after the start; then the exchanges go as before, each with its own advance."
  pub edition_two : y.edition ≡ 2 → tile_permutation y tile ≡ shuffle_of (y.p - 1) (next_of (next_of (next_of (next_of (start_of y.cookie tile))))) own
  unfolding tile_permutation permutation_of begin_of extra advanced
  edition_two e = ap (λ (d : ℕ). permutation_of d y.p y.cookie tile) e

-- "The layout carries an edition, 1 or 2; another is refused with 1": by every call that takes a layout, since its tests begin so, whatever the rest
pub edition_refused : (y : Layout) → y.edition ≢ 1 → y.edition ≢ 2 → (rest : List (Bool × ℕ)) → refusal_by ((validb y, 1) ∷ rest) ≡ 1
unfolding refusal_by ◌or_else◌
edition_refused y one two rest = simp (valid_false y (λ v. two (last v)))
  where
    last : Valid y → y.edition ≡ 2
    last v = omega arith

-- whatever the edition, the permutation is a bijection of 0 .. P-1, and its own inverse undoes it
pub edition_undone : (edition p cookie tile : ℕ) → 1 ≤ p → p ≤ 64
    → Bijection p (at (permutation_of edition p cookie tile)) (at (inverse_of (permutation_of edition p cookie tile)))
edition_undone edition p cookie tile some few = permutation_inverse edition p cookie tile some few p (le_refl p) few

-- the permutations of document 01's examples, "Cookie 0, tile 0", in edition 2; `oracle/` gives the same
pub edition_examples : (take 3 (permutation_of 2 3 0 0) ≡ 0 ∷ 2 ∷ 1 ∷ []) × (take 4 (permutation_of 2 4 0 0) ≡ 2 ∷ 0 ∷ 3 ∷ 1 ∷ [])
unfolding tabulate start_of next_of advanced extra begin_of draw_of own exchange shuffle_of permutation_of
edition_examples = (refl, refl)

-- ---- a layout and the same one in the other edition: same numbers, same file

module _ (y : Layout) where
  -- within the bounds it stays there, and twice is back
  pub other-within : Valid y → Valid (other_edition y)
  other-within = other_valid y

  pub other_back : Valid y → other_edition (other_edition y) ≡ y
  other_back = other-other y

  pub other_numbers : numbers_of (other_edition y) ≡ numbers_of y
  other_numbers = E.other_numbers y

  pub other-capacity : capacity (other_edition y) ≡ capacity y
  other-capacity = E.other-capacity y

  pub other_image : image_length (other_edition y) ≡ image_length y
  other_image = E.other_image y

  -- a file offset lies in the same byte of the same unit of the same group
  pub other_offset : (x : ℕ) → (group_of (other_edition y) x ≡ group_of y x) × (unit_in (other_edition y) x ≡ unit_in y x) × (byte_in (other_edition y) x ≡ byte_in y x)
  unfolding other_edition group_of unit_in byte_in
  other_offset x = (refl, refl, refl)

  -- and encoding a file puts the same bytes into each content
  pub other-encoded : (file : List ℕ) (g o c : ℕ) → encoded (other_edition y) file g o c ≡ encoded y file g o c
  unfolding other_edition encoded offset_of
  other-encoded file g o c = refl

  -- the writes of a run lay the same file
  pub other-laid : (file : List ℕ) (es : List Event) → laid_on (other_edition y) file es ≡ laid_on y file es
  unfolding other_edition laid_on groups block
  other-laid file [] = refl
  other-laid file (write offset bytes ok ∷ es) = other-laid (grant (refusal_by (range_tests y offset (length bytes))) (written file offset bytes) file) es
  other-laid file (write_list ranges bytes ok ∷ es) =
      other-laid (grant (refusal_by (list_tests y ranges (length bytes))) (laid_ranges file ranges bytes (length ranges)) file) es
  other-laid file (fail target ∷ es) = other-laid file es
  other-laid file (repair ∷ es) = other-laid file es
  other-laid file (repair_by plan ∷ es) = other-laid file es
  other-laid file (swap target ∷ es) = other-laid file es
  other-laid file (read offset size ∷ es) = other-laid file es
  other-laid file (look room group content ∷ es) = other-laid file es
  other-laid file (scribble ink ∷ es) = other-laid file es

-- so the same run of calls from a zero pool leaves the same file in either edition, whatever failed, was repaired or scribbled on, and every read after it,
-- accepted or refused, answers alike
module _ (y : Layout) (valid : Valid y) (room : List ℕ) (three : length room ≡ 3) (es : List Event) where
  abbrev here : State
  here = run y (start y room) es

  abbrev there : State
  there = run (other_edition y) (start (other_edition y) room) es

  pub other_file : there.file ≡ here.file
  other_file =
      file_of_run (other_edition y) (other_valid y valid) room three es
      ∙ other-laid y (zeros (capacity (other_edition y))) es
      ∙ ap (λ (n : ℕ). laid_on y (zeros n) es) (other-capacity y)
      ∙ sym (file_of_run y valid room three es)

  pub other_answers : (offset size : ℕ) → range_refusal (other_edition y) there.rec (length there.img) offset size ≡ range_refusal y here.rec (length here.img) offset size
  unfolding range_refusal other_edition groups block
  other_answers offset size =
      (demand_3 (other_edition y) (other_valid y valid) room three es).accepted (range_tests (other_edition y) offset size)
      ∙ sym ((demand_3 y valid room three es).accepted (range_tests y offset size))

  pub other_reads : (offset size : ℕ) → read_out (other_edition y) there.rec there.img offset size ≡ read_out y here.rec here.img offset size
  unfolding read_out
  other_reads offset size =
      equal_or_not (range_refusal y here.rec (length here.img) offset size) 0
      (λ (e : range_refusal y here.rec (length here.img) offset size ≡ 0).
      (demand_3 (other_edition y) (other_valid y valid) room three es).shown offset size (other_answers offset size ∙ e)
      ∙ ap (λ (file : List ℕ). part file offset size) other_file
      ∙ sym ((demand_3 y valid room three es).shown offset size e))
      (λ (f : range_refusal y here.rec (length here.img) offset size ≢ 0).
      grant_no (range_refusal (other_edition y) there.rec (length there.img) offset size) _ (zeros size) (λ e. f (sym (other_answers offset size) ∙ e))
      ∙ sym (grant_no (range_refusal y here.rec (length here.img) offset size) _ (zeros size) f))
