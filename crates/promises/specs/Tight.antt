-- "For each, show that any two outcomes its promise allows are the same." A promise is an equation with a function of the inputs; the name
-- before each statement is the call's. Encode and rebuild, the catalogue, the hex line, a pool as text, a list of writes, a proposed plan, a swap, a move
-- and a row's settings have theirs in `Parity`, `Catalogue`, `HexLine`, `PoolText`, `WriteList`, `RepairPlan`, `SwapDrive`, `MoveEditions` and `Settings`.
use Rattle.std.specs.Prelude.{◌≡◌, List, ℕ}
use Rattle.std.proofs.Common.{sym, ◌∙◌}
use Rattle.numbers.specs.declared.Layout.{Layout}
use Rattle.layout.specs.declared.Measured.{Measured}
use Rattle.layout.specs.declared.Entries.{Entries}
use Rattle.layout.specs.declared.Placed.{Placed}
use Rattle.layout.specs.declared.Held.{Held}
use Rattle.layout.specs.declared.Mapped.{Mapped}
use Rattle.layout.specs.declared.Traced.{Traced}
use Rattle.layout.specs.declared.Cursor.{Cursor}
use Rattle.layout.specs.declared.Step.{Step}
use Rattle.layout.specs.Measure.{measured_of}
use Rattle.layout.specs.Tiles.{permuted_of, inverted_of}
use Rattle.layout.specs.Places.{placed_of, held_of}
use Rattle.layout.specs.Offsets.{mapped_of, traced_of}
use Rattle.layout.specs.Walk.{step_of}
use Rattle.homes.specs.declared.Record.{Record}
use Rattle.pool.specs.Calls.{Reads, Writes, Fails, Repairs, Prepares, Shows, Panels, Audits}
use Rattle.pool_look.specs.declared.Shown.{Shown}
use Rattle.pool_look.specs.Shown.{shown_at}

-- two that equal one are equal
pub same : {A : Type 0} {a r r' : A} → r ≡ a → r' ≡ a → r ≡ r'
same p q = p ∙ sym q

module _ (y : Layout) where
  pub measure_tight : (r r' : Measured) → r ≡ measured_of y → r' ≡ measured_of y → r ≡ r'
  measure_tight r r' = same

  pub tile_permutation_tight : (tile : ℕ) (r r' : Entries) → r ≡ permuted_of y tile → r' ≡ permuted_of y tile → r ≡ r'
  tile_permutation_tight tile r r' = same

  pub tile_inverse_tight : (tile : ℕ) (r r' : Entries) → r ≡ inverted_of y tile → r' ≡ inverted_of y tile → r ≡ r'
  tile_inverse_tight tile r r' = same

  pub find_place_tight : (group unit : ℕ) (r r' : Placed) → r ≡ placed_of y group unit → r' ≡ placed_of y group unit → r ≡ r'
  find_place_tight group unit r r' = same

  pub find_unit_tight : (frame target : ℕ) (r r' : Held) → r ≡ held_of y frame target → r' ≡ held_of y frame target → r ≡ r'
  find_unit_tight frame target r r' = same

  pub map_offset_tight : (x : ℕ) (r r' : Mapped) → r ≡ mapped_of y x → r' ≡ mapped_of y x → r ≡ r'
  map_offset_tight x r r' = same

  pub map_byte_tight : (x : ℕ) (r r' : Traced) → r ≡ traced_of y x → r' ≡ traced_of y x → r ≡ r'
  map_byte_tight x r r' = same

  pub step_tight : (w : Cursor) (r r' : Step) → r ≡ step_of y w → r' ≡ step_of y w → r ≡ r'
  step_tight w r r' = same

-- ---- the pool: each call's promise is one record of equations (`Calls` of the pool)

module _ (y : Layout) (R : Record) (img : List ℕ) where
  pub read_tight : (offset size n n' : ℕ) (out out' : List ℕ) → Reads y R img offset size n out → Reads y R img offset size n' out' → (n ≡ n') × (out ≡ out')
  read_tight offset size n n' out out' p q = (same p.answer q.answer, same p.bytes q.bytes)

  pub write_tight : (offset : ℕ) (bytes : List ℕ) (n n' : ℕ) (i i' : List ℕ) → Writes y R img offset bytes n i → Writes y R img offset bytes n' i' → (n ≡ n') × (i ≡ i')
  write_tight offset bytes n n' i i' p q = (same p.answer q.answer, same p.image q.image)

  pub fail_tight : (target n n' : ℕ) (S S' : Record) → Fails y R img target n S → Fails y R img target n' S' → (n ≡ n') × (S ≡ S')
  fail_tight target n n' S S' p q = (same p.answer q.answer, same p.rec q.rec)

  pub repair_tight : (n n' k k' : ℕ) (S S' : Record) (i i' : List ℕ) → Repairs y R img n k S i → Repairs y R img n' k' S' i'
      → (n ≡ n') × (k ≡ k') × (S ≡ S') × (i ≡ i')
  repair_tight n n' k k' S S' i i' p q =
      (same p.answer q.answer, same p.pairs q.pairs, same p.rec q.rec, same p.image q.image)

  pub panel_tight : (n n' w w' f f' m m' : ℕ) → Panels y R img n w f m → Panels y R img n' w' f' m' → (n ≡ n') × (w ≡ w') × (f ≡ f') × (m ≡ m')
  panel_tight n n' w w' f f' m m' p q = (same p.answer q.answer, same p.waits q.waits, same p.fails q.fails, same p.mends q.mends)

  pub audit_tight : (n n' : ℕ) → Audits y R img n → Audits y R img n' → n ≡ n'
  audit_tight n n' p q = same p.answer q.answer

  pub prepare_tight : (room group content n n' : ℕ) (s s' : List ℕ) → Prepares y R img room group content n s → Prepares y R img room group content n' s'
      → (n ≡ n') × (s ≡ s')
  prepare_tight room group content n n' s s' p q = (same p.answer q.answer, same p.bytes q.bytes)

  -- the bytes that are shown; which of the two slices they are a part of is `locate`'s to say
  pub show_tight : (scratch : List ℕ) (group content n n' : ℕ) (s s' : List ℕ) → Shows y R img scratch group content n s → Shows y R img scratch group content n' s'
      → (n ≡ n') × (s ≡ s')
  show_tight scratch group content n n' s s' p q = (same p.answer q.answer, same p.bytes q.bytes)

  -- it is lent lengths alone, `len` the image's and `room` the scratch's
  pub locate_tight : (len room group content : ℕ) (x x' : Shown) → x ≡ shown_at y R len room group content → x' ≡ shown_at y R len room group content → x ≡ x'
  locate_tight len room group content x x' = same
