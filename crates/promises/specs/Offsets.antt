-- "the maps from file offset to place and back", while nothing has failed: what the calls `map_offset`, `map_byte` and `find_place` answer fits together,
-- for every layout and every input that they accept.
use Rattle.std.specs.Prelude.{◌≡◌, false, [], ◌∷◌, ℕ, ◌+◌, ◌<◌}
use Rattle.std.proofs.Math.Path.{refl, sym, ap}
use Rattle.std.proofs.Common.{◌∙◌}
use Rattle.std.proofs.Math.Bool.{true}
use Rattle.std.proofs.Math.Dec.{ltb}
use borrow.Author.Tests.{lt-ltb, ltb-true}
use Rattle.lists.specs.Pick.{pick, pick_true, clash}
use Rattle.lists.specs.Refusal.{grant_yes, refusal_none}
use Rattle.numbers.specs.declared.Layout.{Layout}
use Rattle.numbers.specs.Layouts.{Valid, width, all_groups, capacity, image_length}
use Rattle.numbers.specs.Refused.{validb, valid_true}
use Rattle.place.specs.declared.Unit.{Unit}
use Rattle.place.specs.Places.{place_of}
use Rattle.place.specs.Bytes.{group_of, unit_in, byte_in, offset_of, spot, image_byte, unit_here, offset_here}
use Rattle.place.specs.ByteLaws as B
use Rattle.layout.specs.declared.Mapped.{Mapped}
use Rattle.layout.specs.declared.Traced.{Traced}
use Rattle.layout.specs.declared.Placed.{Placed}
use Rattle.layout.specs.Places.{place_refusal, placed_of}
use Rattle.layout.specs.Offsets.{offset_refusal, mapped_of, byte_refusal, file_offset, traced_of}
use Rattle.layout.specs.Asked.{offset_asked, byte_asked}
use Rattle.survey.specs.Surveyed.{spot_plus}
use Rattle.promises.specs.Refusals.{number_is}

module _ (y : Layout) where
  -- ---- accepted answers, whole

  abbrev mapped : ℕ → Mapped
  mapped x = record { refusal = 0; group = group_of y x; unit = unit_in y x; byte = byte_in y x; image = image_byte y x }

  abbrev traced : Unit → ℕ → Traced
  traced a o = record { refusal = 0; group = a.group; unit = a.unit; byte = o; is_data = ltb a.unit y.n; offset = file_offset y a o }

  offset_accepted : (x : ℕ) → (mapped_of y x).refusal ≡ 0 → offset_refusal y x ≡ 0
  unfolding mapped_of
  offset_accepted x e = sym (number_is (λ (r : Mapped). r.refusal) (offset_refusal y x) _ _ refl refl) ∙ e

  byte_accepted : (x : ℕ) → (traced_of y x).refusal ≡ 0 → byte_refusal y x ≡ 0
  unfolding traced_of
  byte_accepted x e = sym (number_is (λ (r : Traced). r.refusal) (byte_refusal y x) _ _ refl refl) ∙ e

  mapped_is : (x : ℕ) → Valid y → x < capacity y → mapped_of y x ≡ mapped x
  unfolding mapped_of offset_refusal
  mapped_is x v h = grant_yes _ _ _ (refusal_none ((validb y, 1) ∷ (ltb x (capacity y), 4) ∷ []) (valid_true y v, (lt-ltb x (capacity y) h, tt)))

  traced_is : (x : ℕ) → Valid y → x < image_length y → traced_of y x ≡ traced (unit_here y x) (offset_here y x)
  unfolding traced_of byte_refusal
  traced_is x v h = grant_yes _ _ _ (refusal_none ((validb y, 1) ∷ (ltb x (image_length y), 4) ∷ []) (valid_true y v, (lt-ltb x (image_length y) h, tt)))

  -- ---- there and back

  -- the image byte of a file offset is a data unit's, and leads back to the offset
  pub mapped_and_back : (x : ℕ) → (mapped_of y x).refusal ≡ 0
      → traced_of y (mapped_of y x).image ≡ record { refusal = 0; group = (mapped_of y x).group; unit = (mapped_of y x).unit; byte = (mapped_of y x).byte; is_data = true; offset = x }
  unfolding image_byte
  mapped_and_back x e =
      let a = offset_asked y x (offset_accepted x e) in
      let v = a.0 in
      let hg = B.group_lt y v x a.1 in
      let hu = B.unit_in_width y v x in
      let ho = B.byte_lt y v x in
      let there = mapped_is x v a.1 in
      let is : ltb (unit_in y x) y.n ≡ true = lt-ltb (unit_in y x) y.n (B.unit_lt y v x) in
      ap (λ (m : Mapped). traced_of y m.image) there
      ∙ traced_is (image_byte y x) v (B.spot_in y v (group_of y x) (unit_in y x) (byte_in y x) hg hu ho)
      ∙ (λ i. traced (B.unit_there y v (group_of y x) (unit_in y x) (byte_in y x) hg hu ho i) (B.offset_there y v (group_of y x) (unit_in y x) (byte_in y x) hg hu ho i))
      ∙ (λ i. record { refusal = 0; group = group_of y x; unit = unit_in y x; byte = byte_in y x; is_data = is i; offset = pick (is i) (B.offset_is y v x i) 0 })
      ∙ sym (ap (λ (m : Mapped). record { refusal = 0; group = m.group; unit = m.unit; byte = m.byte; is_data = true; offset = x }) there)

  -- the file offset of a data unit's byte leads back to that byte of the image
  pub traced_and_back : (x : ℕ) → (traced_of y x).refusal ≡ 0 → (traced_of y x).is_data ≡ true
      → mapped_of y (traced_of y x).offset ≡ record { refusal = 0; group = (traced_of y x).group; unit = (traced_of y x).unit; byte = (traced_of y x).byte; image = x }
  traced_and_back x e d =
      let a = byte_asked y x (byte_accepted x e) in
      let v = a.0 in
      let there = traced_is x v a.1 in
      let is : ltb (unit_here y x).unit y.n ≡ true = sym (ap (λ (r : Traced). r.is_data) there) ∙ d in
      let hg = B.group_here-lt y v x a.1 in
      let hc = ltb-true (unit_here y x).unit y.n is in
      let ho = B.offset_here-lt y v x in
      let g = (unit_here y x).group in
      let c = (unit_here y x).unit in
      let o = offset_here y x in
      ap (λ (r : Traced). mapped_of y r.offset) there
      ∙ ap (mapped_of y) (pick_true (ltb c y.n) (offset_of y g c o) 0 is)
      ∙ mapped_is (offset_of y g c o) v (B.offset_lt y v g c o hg hc ho)
      ∙ (λ i. record {
        refusal = 0;
        group = B.offset_group y v g c o hc ho i;
        unit = B.offset_unit y v g c o hc ho i;
        byte = B.offset_byte y v g c o hc ho i;
        image = B.image_back y v x a.1 hc i;
      })
      ∙ sym (ap (λ (r : Traced). record { refusal = 0; group = r.group; unit = r.unit; byte = r.byte; image = x }) there)

  -- every byte of the image, of whatever unit, is that byte of its unit, counted from where the unit begins
  pub traced-places : (x : ℕ) → (traced_of y x).refusal ≡ 0
      → ((placed_of y (traced_of y x).group (traced_of y x).unit).refusal ≡ 0) × ((placed_of y (traced_of y x).group (traced_of y x).unit).begins + (traced_of y x).byte ≡ x)
  unfolding placed_of place_refusal
  traced-places x e =
      let a = byte_asked y x (byte_accepted x e) in
      let v = a.0 in
      let there = traced_is x v a.1 in
      let g = (unit_here y x).group in
      let u = (unit_here y x).unit in
      let found : placed_of y (unit_here y x).group (unit_here y x).unit ≡ record { refusal = 0; frame = (place_of y g u).frame; target = (place_of y g u).target; begins = spot y g u 0 } =
      grant_yes _ _ _ (refusal_none ((validb y, 1) ∷ (ltb g (all_groups y), 4) ∷ (ltb u (width y), 4) ∷ [])
      (valid_true y v, (lt-ltb g (all_groups y) (B.group_here-lt y v x a.1), (lt-ltb u (width y) (B.unit_here-lt y v x a.1), tt)))) in (
        ap (λ (r : Traced). (placed_of y r.group r.unit).refusal) there ∙ ap (λ (p : Placed). p.refusal) found,
        ap (λ (r : Traced). (placed_of y r.group r.unit).begins + r.byte) there
            ∙ ap (λ (p : Placed). p.begins + offset_here y x) found
            ∙ spot_plus y g u (offset_here y x)
            ∙ B.spot-here y v x a.1,
      )

  -- a byte of a parity unit or a spare is no file offset's
  pub no_offset_there : (x : ℕ) → (traced_of y x).is_data ≡ false → (z : ℕ) → (mapped_of y z).refusal ≡ 0 → (mapped_of y z).image ≡ x → ⊥
  no_offset_there x d z e at_x =
      clash true refl (ap (λ (r : Traced). r.is_data) (sym (mapped_and_back z e) ∙ ap (traced_of y) at_x) ∙ d)
