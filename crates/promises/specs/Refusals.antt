-- Demand 1: each public call "answers with the lowest refusal number of document 01 that applies": of its tests, each with its number, the
-- lowest number of one that fails, and 0 only where none fails. "A refused read, listing, look or hex line fills its output with zeros; any other
-- refused call changes no byte and no record", and its numbers are 0. Said of the answers themselves: of the answer that the promise of a call equates
-- with, or of any outcome that its promise allows. The calls of one group, the catalogue, the hex line, a pool as text, whose reader "counts as a read
-- for demand 1", a list of writes, a proposed plan, a swap, a move, whose new image "counts as a read's output", and a row's settings have theirs in
-- `Parity`, `Catalogue`, `HexLine`, `PoolText`, `WriteList`, `RepairPlan`, `SwapDrive`, `MoveEditions`, `Settings`.
use Rattle.std.specs.Prelude.{◌≡◌, Bool, not, eqb, ltb, leb}
use Rattle.std.proofs.Math.Path.{refl, subst⁻¹}
use Rattle.std.proofs.Common.{sym, ap, ◌∙◌, ⊎_elim, le_refl, arith}
use Rattle.std.proofs.Math.Bool.{true, false}
use mathlib.Core.List.{List, [], ◌∷◌}
use Prim.Native.Nat.{ℕ, zero, suc, ◌+◌, ◌*◌, ◌-◌, ◌<◌}
use borrow.Author.Tests.{le-leb}
use Rattle.std.proofs.Math.ListN.{length}
use Rattle.lists.specs.Pick.{pick, below_or_not, clash}
use Rattle.lists.specs.Tabulate.{tabulate, zeros}
use Rattle.lists.specs.Refusal.{LowestThatApplies, ◌or_else◌, refusal_by, refusal_lowest, grant, grant_no, grant-either}
use Rattle.numbers.specs.declared.Layout.{Layout}
use Rattle.numbers.specs.Layouts.{Valid, width, frames, all_groups, contents, capacity, image_length}
use Rattle.numbers.specs.Refused.{validb, valid_of, valid_true, layout_refusal}
use Rattle.place.specs.declared.Unit.{Unit}
use Rattle.layout.specs.declared.Measured.{Measured}
use Rattle.layout.specs.declared.Entries.{Entries}
use Rattle.layout.specs.declared.Placed.{Placed}
use Rattle.layout.specs.declared.Held.{Held}
use Rattle.layout.specs.declared.Mapped.{Mapped}
use Rattle.layout.specs.declared.Traced.{Traced}
use Rattle.layout.specs.declared.Cursor.{Cursor}
use Rattle.layout.specs.declared.Step.TheVariants.{At, Done, Refused}
use Rattle.layout.specs.Measure.{no_numbers, measured_of}
use Rattle.layout.specs.Tiles.{tile_refusal, permuted_of, inverted_of}
use Rattle.layout.specs.Places.{place_refusal, placed_of, unit_refusal, held_of}
use Rattle.layout.specs.Offsets.{offset_refusal, mapped_of, byte_refusal, traced_of}
use Rattle.layout.specs.Walk.{walk_refusal, step_of, number_of}
use Rattle.homes.specs.declared.Record.{Record}
use Rattle.homes.specs.Records.{failed, record_good}
use Rattle.pool.specs.Counting.{missing_units, on_target}
use Rattle.pool.specs.Refusals.{range_refusal, otherwise, fail_refusal, repair_refusal, look_refusal}
use Rattle.pool.specs.Reading.{read_out}
use Rattle.pool.specs.Failing.{fail_record}
use Rattle.pool.specs.Repairing.{repair_record, repair_count}
use Rattle.pool.specs.Looking.{look_scratch, look_shown}
use Rattle.pool.specs.Auditing.{audit_refusal, panel_shows}
use Rattle.pool.specs.Calls.{Reads, Writes, Fails, Repairs, Prepares, Shows, Panels, Audits}
use Rattle.pool.specs.WriteHolds.{write_refused}
use Rattle.pool.proofs.ChangesLaws.{write_none}
use Rattle.pool.proofs.RepairHolds.{repair_refused}
use Rattle.pool_look.specs.declared.Shown.{Shown}
use Rattle.pool_look.specs.Shown.{shown_at}

-- a granted answer has the number that it was granted by
pub number_is : {A : Type 0} (number : A → ℕ) (n : ℕ) (good bad : A) → number good ≡ 0 → number bad ≡ n → number (grant n good bad) ≡ n
number_is number zero good bad e f = e
number_is number (suc n) good bad e f = f

-- and where that is not 0 it is the refused answer with that number
refused_is : {A : Type 0} (number : A → ℕ) (n : ℕ) (good : A) (bad : ℕ → A) → number good ≡ 0 → ((m : ℕ) → number (bad m) ≡ m)
    → (number (grant n good (bad n)) ≡ 0 → ⊥) → grant n good (bad n) ≡ bad (number (grant n good (bad n)))
refused_is number zero good bad e f never = absurd (never e)
refused_is number (suc n) good bad e f never = ap bad (sym (f (suc n)))

-- a number that is refused by a table is the lowest that applies there
lowest_of : (t : List (Bool × ℕ)) {n : ℕ} → n ≡ refusal_by t → LowestThatApplies t (refusal_by t) → LowestThatApplies t n
lowest_of t e h = subst⁻¹ (LowestThatApplies t) e h

-- ---- layout numbers, permutation, places, offsets

module _ (y : Layout) where
  pub measure_lowest : LowestThatApplies ((validb y, 1) ∷ []) (measured_of y).refusal
  unfolding measured_of layout_refusal
  measure_lowest =
      lowest_of ((validb y, 1) ∷ []) (number_is (λ (r : Measured). r.refusal) _ _ _ refl refl) (refusal_lowest 1 _ (omega arith) refl)

  -- accepted just where every layout number is within its bounds
  pub measure_accepts : (Valid y → (measured_of y).refusal ≡ 0) × ((measured_of y).refusal ≡ 0 → Valid y)
  measure_accepts = (
    (λ (v : Valid y). not_above (λ h. clash (validb y) (valid_true y v) (fails h))),
    (λ (e : (measured_of y).refusal ≡ 0). valid_of y (measure_lowest.none e).0),
  )
    where
      fails : 0 < (measured_of y).refusal → validb y ≡ false
      fails h = ⊎_elim (λ (p : (validb y ≡ false) × (1 ≡ (measured_of y).refusal)). p.0) (λ (n : ⊥). absurd n) (measure_lowest.applies h)

      not_above : (0 < (measured_of y).refusal → ⊥) → (measured_of y).refusal ≡ 0
      not_above f = below_or_not 0 (measured_of y).refusal (λ h. absurd (f h)) (λ h. omega arith)

  pub measure_refused : ((measured_of y).refusal ≡ 0 → ⊥) → measured_of y ≡ record { refusal = (measured_of y).refusal; numbers = no_numbers }
  unfolding measured_of
  measure_refused = refused_is (λ (r : Measured). r.refusal) (layout_refusal y) _ (λ n. record { refusal = n; numbers = no_numbers }) refl (λ m. refl)

  -- a tile's permutation and its inverse
  pub tile_lowest : (tile : ℕ)
      → LowestThatApplies ((validb y, 1) ∷ (ltb tile y.t, 4) ∷ []) (permuted_of y tile).refusal
      × LowestThatApplies ((validb y, 1) ∷ (ltb tile y.t, 4) ∷ []) (inverted_of y tile).refusal
  unfolding permuted_of inverted_of tile_refusal
  tile_lowest tile =
      let h = refusal_lowest 1 ((validb y, 1) ∷ (ltb tile y.t, 4) ∷ []) (omega arith) refl in
      (lowest_of _ (number_is (λ (r : Entries). r.refusal) _ _ _ refl refl) h, lowest_of _ (number_is (λ (r : Entries). r.refusal) _ _ _ refl refl) h)

  pub tile_refused : (tile : ℕ)
      → (((permuted_of y tile).refusal ≡ 0 → ⊥) → permuted_of y tile ≡ record { refusal = (permuted_of y tile).refusal; entries = zeros 64 })
      × (((inverted_of y tile).refusal ≡ 0 → ⊥) → inverted_of y tile ≡ record { refusal = (inverted_of y tile).refusal; entries = zeros 64 })
  unfolding permuted_of inverted_of
  tile_refused tile = (
    refused_is (λ (r : Entries). r.refusal) (tile_refusal y tile) _ (λ n. record { refusal = n; entries = zeros 64 }) refl (λ m. refl),
    refused_is (λ (r : Entries). r.refusal) (tile_refusal y tile) _ (λ n. record { refusal = n; entries = zeros 64 }) refl (λ m. refl),
  )

  pub place-lowest : (group unit : ℕ)
      → LowestThatApplies ((validb y, 1) ∷ (ltb group (all_groups y), 4) ∷ (ltb unit (width y), 4) ∷ []) (placed_of y group unit).refusal
  unfolding placed_of place_refusal
  place-lowest group unit =
      lowest_of ((validb y, 1) ∷ (ltb group (all_groups y), 4) ∷ (ltb unit (width y), 4) ∷ [])
      (number_is (λ (r : Placed). r.refusal) _ _ _ refl refl) (refusal_lowest 1 _ (omega arith) refl)

  pub place-refused : (group unit : ℕ) → ((placed_of y group unit).refusal ≡ 0 → ⊥)
      → placed_of y group unit ≡ record { refusal = (placed_of y group unit).refusal; frame = 0; target = 0; begins = 0 }
  unfolding placed_of
  place-refused group unit =
      refused_is (λ (r : Placed). r.refusal) (place_refusal y group unit) _ (λ n. record { refusal = n; frame = 0; target = 0; begins = 0 }) refl (λ m. refl)

  pub unit_lowest : (frame target : ℕ)
      → LowestThatApplies ((validb y, 1) ∷ (ltb frame (frames y), 4) ∷ (ltb target y.p, 4) ∷ []) (held_of y frame target).refusal
  unfolding held_of unit_refusal
  unit_lowest frame target =
      lowest_of ((validb y, 1) ∷ (ltb frame (frames y), 4) ∷ (ltb target y.p, 4) ∷ [])
      (number_is (λ (r : Held). r.refusal) _ _ _ refl refl) (refusal_lowest 1 _ (omega arith) refl)

  pub unit_refused : (frame target : ℕ) → ((held_of y frame target).refusal ≡ 0 → ⊥)
      → held_of y frame target ≡ record { refusal = (held_of y frame target).refusal; group = 0; unit = 0 }
  unfolding held_of
  unit_refused frame target =
      refused_is (λ (r : Held). r.refusal) (unit_refusal y frame target) _ (λ n. record { refusal = n; group = 0; unit = 0 }) refl (λ m. refl)

  -- "A single offset to be mapped must be below capacity."
  pub offset_lowest : (x : ℕ) → LowestThatApplies ((validb y, 1) ∷ (ltb x (capacity y), 4) ∷ []) (mapped_of y x).refusal
  unfolding mapped_of offset_refusal
  offset_lowest x =
      lowest_of ((validb y, 1) ∷ (ltb x (capacity y), 4) ∷ []) (number_is (λ (r : Mapped). r.refusal) _ _ _ refl refl) (refusal_lowest 1 _ (omega arith) refl)

  pub offset_refused : (x : ℕ) → ((mapped_of y x).refusal ≡ 0 → ⊥)
      → mapped_of y x ≡ record { refusal = (mapped_of y x).refusal; group = 0; unit = 0; byte = 0; image = 0 }
  unfolding mapped_of
  offset_refused x =
      refused_is (λ (r : Mapped). r.refusal) (offset_refusal y x) _ (λ n. record { refusal = n; group = 0; unit = 0; byte = 0; image = 0 }) refl (λ m. refl)

  pub byte_lowest : (x : ℕ) → LowestThatApplies ((validb y, 1) ∷ (ltb x (image_length y), 4) ∷ []) (traced_of y x).refusal
  unfolding traced_of byte_refusal
  byte_lowest x =
      lowest_of ((validb y, 1) ∷ (ltb x (image_length y), 4) ∷ []) (number_is (λ (r : Traced). r.refusal) _ _ _ refl refl) (refusal_lowest 1 _ (omega arith) refl)

  pub byte_refused : (x : ℕ) → ((traced_of y x).refusal ≡ 0 → ⊥)
      → traced_of y x ≡ record { refusal = (traced_of y x).refusal; group = 0; unit = 0; byte = 0; is_data = false; offset = 0 }
  unfolding traced_of
  byte_refused x =
      refused_is (λ (r : Traced). r.refusal) (byte_refusal y x) _ (λ n. record { refusal = n; group = 0; unit = 0; byte = 0; is_data = false; offset = 0 }) refl (λ m. refl)

  -- a step of the walk; what a refused one answers is `step-refused` of `Walks`
  pub walk-lowest : (w : Cursor)
      → LowestThatApplies ((validb y, 1) ∷ (ltb w.target y.p, 4) ∷ (leb w.frame (frames y), 4) ∷ []) (number_of (step_of y w))
  unfolding step_of walk_refusal
  walk-lowest w =
      lowest_of ((validb y, 1) ∷ (ltb w.target y.p, 4) ∷ (leb w.frame (frames y), 4) ∷ [])
      (numbered (walk_refusal y w) (ltb w.frame (frames y)) _ _) (refusal_lowest 1 _ (omega arith) refl)
    where
      numbered : (n : ℕ) (left : Bool) (u : Unit) (next : Cursor) → number_of (grant n (pick left (At u next) (Done w)) (Refused n w)) ≡ n
      numbered zero true u next = refl
      numbered zero false u next = refl
      numbered (suc n) left u next = refl

-- ---- the pool: n is the number that a call answers

-- what a range of `size` bytes is tested for, and a look with a scratch of `room` bytes; before them what every call tests, of an image of `len` bytes
-- (the documents' numbers once more beside pool's own tables, so that one which is changed there alone is refused here)
module _ (y : Layout) where
  abbrev range_table : ℕ → ℕ → List (Bool × ℕ)
  range_table offset size = (leb offset (capacity y), 4) ∷ (leb size (capacity y - offset), 4) ∷ []

  abbrev look_table : ℕ → ℕ → ℕ → List (Bool × ℕ)
  look_table room group content = (ltb group (all_groups y), 4) ∷ (ltb content (contents y), 4) ∷ (eqb room y.u, 5) ∷ []

module _ (y : Layout) (R : Record) where
  abbrev pub pool_table : ℕ → List (Bool × ℕ) → List (Bool × ℕ)
  pool_table len own = (validb y, 1) ∷ (eqb len (image_length y), 2) ∷ (record_good y R, 3) ∷ (leb R.waiting (all_groups y * contents y), 3) ∷ own

  -- the second step of a look that answers a place: it is lent lengths alone
  pub locate_lowest : (len room group content : ℕ) → LowestThatApplies (pool_table len (look_table y room group content)) (shown_at y R len room group content).refusal
  unfolding shown_at look_refusal
  locate_lowest len room group content =
      lowest_of (pool_table len (look_table y room group content)) (number_is (λ (x : Shown). x.refusal) _ _ _ refl refl) (refusal_lowest 1 _ (omega arith) refl)

  pub locate_refused : (len room group content : ℕ) → ((shown_at y R len room group content).refusal ≡ 0 → ⊥)
      → shown_at y R len room group content ≡ record { refusal = (shown_at y R len room group content).refusal; missing = false; begins = 0; length = 0 }
  unfolding shown_at
  locate_refused len room group content =
      refused_is (λ (x : Shown). x.refusal) (look_refusal y R len room group content) _ (λ n. record { refusal = n; missing = false; begins = 0; length = 0 }) refl (λ m. refl)

module _ (y : Layout) (R : Record) (img : List ℕ) where
  -- the same of the image that is lent
  abbrev table_here : List (Bool × ℕ) → List (Bool × ℕ)
  table_here = pool_table y R (length img)

  pub read_lowest : (offset size n : ℕ) (out : List ℕ) → Reads y R img offset size n out → LowestThatApplies (table_here (range_table y offset size)) n
  unfolding range_refusal
  read_lowest offset size n out p = lowest_of (table_here (range_table y offset size)) p.answer (refusal_lowest 1 _ (omega arith) refl)

  pub write_lowest : (offset : ℕ) (bytes : List ℕ) (n : ℕ) (img' : List ℕ) → Writes y R img offset bytes n img' → LowestThatApplies (table_here (range_table y offset (length bytes))) n
  unfolding range_refusal
  write_lowest offset bytes n img' p = lowest_of (table_here (range_table y offset (length bytes))) p.answer (refusal_lowest 1 _ (omega arith) refl)

  -- fail's own tests of the target; and the compound one: where all the others pass, the raised count must be no more than T·C·(N+K)
  abbrev target_table : ℕ → List (Bool × ℕ)
  target_table target = (ltb target y.p, 4) ∷ (not (failed R target), 6) ∷ (not (eqb R.k y.k), 7) ∷ []

  abbrev stays_within : ℕ → Bool
  stays_within target = grant (refusal_by (table_here (target_table target))) (leb (R.waiting + on_target y R target) (all_groups y * contents y)) true

  pub fail_lowest : (target n : ℕ) (R' : Record) → Fails y R img target n R'
      → LowestThatApplies (table_here ((stays_within target, 3) ∷ target_table target)) n
  unfolding fail_refusal otherwise
  fail_lowest target n R' p = lowest_of (table_here ((stays_within target, 3) ∷ target_table target)) p.answer (refusal_lowest 1 _ (omega arith) refl)

  pub repair_lowest : (n count : ℕ) (R' : Record) (img' : List ℕ) → Repairs y R img n count R' img' → LowestThatApplies (table_here []) n
  unfolding repair_refusal
  repair_lowest n count R' img' p = lowest_of (table_here []) p.answer (refusal_lowest 1 _ (omega arith) refl)

  pub panel_lowest : (n waiting failed repaired : ℕ) → Panels y R img n waiting failed repaired → LowestThatApplies (table_here []) n
  unfolding repair_refusal
  panel_lowest n waiting failed repaired p = lowest_of (table_here []) p.answer (refusal_lowest 1 _ (omega arith) refl)

  pub audit_lowest : (n : ℕ) → Audits y R img n → LowestThatApplies (table_here ((eqb R.waiting (missing_units y R), 14) ∷ [])) n
  unfolding audit_refusal
  audit_lowest n p = lowest_of (table_here ((eqb R.waiting (missing_units y R), 14) ∷ [])) p.answer (refusal_lowest 1 _ (omega arith) refl)

  pub prepare_lowest : (room group content n : ℕ) (scratch : List ℕ) → Prepares y R img room group content n scratch → LowestThatApplies (table_here (look_table y room group content)) n
  unfolding look_refusal
  prepare_lowest room group content n scratch p = lowest_of (table_here (look_table y room group content)) p.answer (refusal_lowest 1 _ (omega arith) refl)

  pub show_lowest : (scratch : List ℕ) (group content n : ℕ) (shown : List ℕ) → Shows y R img scratch group content n shown
      → LowestThatApplies (table_here (look_table y (length scratch) group content)) n
  unfolding look_refusal
  show_lowest scratch group content n shown p = lowest_of (table_here (look_table y (length scratch) group content)) p.answer (refusal_lowest 1 _ (omega arith) refl)

  -- ---- what a refused call leaves

  pub read_refused-zeros : (offset size n : ℕ) (out : List ℕ) → Reads y R img offset size n out → (n ≡ 0 → ⊥) → out ≡ zeros size
  unfolding read_out
  read_refused-zeros offset size n out p never =
      p.bytes ∙ grant_no (range_refusal y R (length img) offset size) _ (zeros size) (λ (z : _ ≡ 0). never (p.answer ∙ z))

  pub write_refused_unchanged : (offset : ℕ) (bytes : List ℕ) (n : ℕ) (img' : List ℕ) → Writes y R img offset bytes n img' → (n ≡ 0 → ⊥) → img' ≡ img
  write_refused_unchanged offset bytes n img' p never = p.image ∙ write_refused y R img offset bytes (λ z. never (p.answer ∙ z))

  pub fail_refused_unchanged : (target n : ℕ) (R' : Record) → Fails y R img target n R' → (n ≡ 0 → ⊥) → R' ≡ R
  unfolding fail_record
  fail_refused_unchanged target n R' p never =
      p.rec ∙ grant_no (fail_refusal y R (length img) target) _ R (λ (z : _ ≡ 0). never (p.answer ∙ z))

  pub repair_refused_unchanged : (n count : ℕ) (R' : Record) (img' : List ℕ) → Repairs y R img n count R' img' → (n ≡ 0 → ⊥)
      → (img' ≡ img) × (R' ≡ R) × (count ≡ 0)
  unfolding repair_record repair_count
  repair_refused_unchanged n count R' img' p never = (
    p.image ∙ repair_refused y R img no,
    p.rec ∙ grant_no (repair_refusal y R (length img)) _ R no,
    p.pairs ∙ grant_no (repair_refusal y R (length img)) _ 0 no,
  )
    where
      no : repair_refusal y R (length img) ≡ 0 → ⊥
      no z = never (p.answer ∙ z)

  pub panel_refused-zeros : (n waiting failed repaired : ℕ) → Panels y R img n waiting failed repaired → (n ≡ 0 → ⊥)
      → (waiting ≡ 0) × (failed ≡ 0) × (repaired ≡ 0)
  unfolding panel_shows
  panel_refused-zeros n waiting failed repaired p never =
      let no : repair_refusal y R (length img) ≡ 0 → ⊥ = λ z. never (p.answer ∙ z) in
      (p.waits ∙ grant_no _ _ 0 no, p.fails ∙ grant_no _ _ 0 no, p.mends ∙ grant_no _ _ 0 no)

  pub prepare_refused-zeros : (room group content n : ℕ) (scratch : List ℕ) → Prepares y R img room group content n scratch → (n ≡ 0 → ⊥) → scratch ≡ zeros room
  unfolding look_scratch
  prepare_refused-zeros room group content n scratch p never =
      p.bytes ∙ grant_no (look_refusal y R (length img) room group content) _ (zeros room) (λ (z : _ ≡ 0). never (p.answer ∙ z))

  pub show_refused_empty : (scratch : List ℕ) (group content n : ℕ) (shown : List ℕ) → Shows y R img scratch group content n shown → (n ≡ 0 → ⊥) → shown ≡ []
  unfolding look_shown
  show_refused_empty scratch group content n shown p never =
      p.bytes ∙ grant_no (look_refusal y R (length img) (length scratch) group content) _ [] (λ (z : _ ≡ 0). never (p.answer ∙ z))

  -- ---- "a length of 0 at offset = capacity is accepted and does nothing"

  -- accepted: 4 does not apply, and what every call tests first decides alone
  at_the_end : range_refusal y R (length img) (capacity y) 0 ≡ refusal_by (table_here [])
  unfolding range_refusal refusal_by ◌or_else◌
  at_the_end =
      let from = le-leb (capacity y) (capacity y) (le_refl (capacity y)) in
      let size = le-leb 0 (capacity y - capacity y) (omega arith) in
      λ i. refusal_by (table_here ((from i, 4) ∷ (size i, 4) ∷ []))

  pub empty_read_lowest : (n : ℕ) (out : List ℕ) → Reads y R img (capacity y) 0 n out → LowestThatApplies (table_here []) n
  empty_read_lowest n out p = lowest_of (table_here []) (p.answer ∙ at_the_end) (refusal_lowest 1 _ (omega arith) refl)

  pub empty_write_lowest : (n : ℕ) (img' : List ℕ) → Writes y R img (capacity y) [] n img' → LowestThatApplies (table_here []) n
  empty_write_lowest n img' p = lowest_of (table_here []) (p.answer ∙ at_the_end) (refusal_lowest 1 _ (omega arith) refl)

  -- a write of no bytes changes nothing at any offset, nor is there a byte that a read of none could show
  pub empty_write_unchanged : (offset n : ℕ) (img' : List ℕ) → Writes y R img offset [] n img' → img' ≡ img
  empty_write_unchanged offset n img' p = p.image ∙ write_none y R img offset

  pub empty_read_empty : (offset n : ℕ) (out : List ℕ) → Reads y R img offset 0 n out → out ≡ []
  unfolding read_out tabulate
  empty_read_empty offset n out p = p.bytes ∙ grant-either (range_refusal y R (length img) offset 0) _ _ (λ (l : List ℕ). l ≡ []) (λ z. refl) (λ z. refl)
