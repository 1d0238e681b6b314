-- What is known once nothing is refused.
use Rattle.std.specs.Prelude.{◌≡◌, refl, [], ◌∷◌, ℕ, ◌≤◌, ◌<◌, ltb, leb}
use Rattle.std.proofs.Common.{arith}
use borrow.Author.Tests.{ltb-true, leb-true}
use Rattle.lists.specs.Refusal.{refusal_lowest}
use Rattle.numbers.specs.declared.Layout.{Layout}
use Rattle.numbers.specs.Layouts.{Valid, width, frames, all_groups, capacity, image_length}
use Rattle.numbers.specs.Refused.{validb, valid_of}
use Rattle.layout.specs.declared.Cursor.{Cursor}
use Rattle.layout.specs.Tiles.{tile_refusal}
use Rattle.layout.specs.Places.{place_refusal, unit_refusal}
use Rattle.layout.specs.Offsets.{offset_refusal, byte_refusal}
use Rattle.layout.specs.Walk.{walk_refusal}

module _ (y : Layout) where
  pub tile_asked : (tile : ℕ) → tile_refusal y tile ≡ 0 → Valid y × (tile < y.t)
  unfolding tile_refusal
  tile_asked tile e =
      let p = (refusal_lowest 1 ((validb y, 1) ∷ (ltb tile y.t, 4) ∷ []) (omega arith) refl).none e in
      (valid_of y p.0, ltb-true tile y.t p.1.0)

  pub place-asked : (group unit : ℕ) → place_refusal y group unit ≡ 0 → Valid y × (group < all_groups y) × (unit < width y)
  unfolding place_refusal
  place-asked group unit e =
      let p = (refusal_lowest 1 ((validb y, 1) ∷ (ltb group (all_groups y), 4) ∷ (ltb unit (width y), 4) ∷ []) (omega arith) refl).none e in
      (valid_of y p.0, ltb-true group (all_groups y) p.1.0, ltb-true unit (width y) p.1.1.0)

  pub unit_asked : (frame target : ℕ) → unit_refusal y frame target ≡ 0 → Valid y × (frame < frames y) × (target < y.p)
  unfolding unit_refusal
  unit_asked frame target e =
      let p = (refusal_lowest 1 ((validb y, 1) ∷ (ltb frame (frames y), 4) ∷ (ltb target y.p, 4) ∷ []) (omega arith) refl).none e in
      (valid_of y p.0, ltb-true frame (frames y) p.1.0, ltb-true target y.p p.1.1.0)

  pub offset_asked : (x : ℕ) → offset_refusal y x ≡ 0 → Valid y × (x < capacity y)
  unfolding offset_refusal
  offset_asked x e =
      let p = (refusal_lowest 1 ((validb y, 1) ∷ (ltb x (capacity y), 4) ∷ []) (omega arith) refl).none e in
      (valid_of y p.0, ltb-true x (capacity y) p.1.0)

  pub byte_asked : (x : ℕ) → byte_refusal y x ≡ 0 → Valid y × (x < image_length y)
  unfolding byte_refusal
  byte_asked x e =
      let p = (refusal_lowest 1 ((validb y, 1) ∷ (ltb x (image_length y), 4) ∷ []) (omega arith) refl).none e in
      (valid_of y p.0, ltb-true x (image_length y) p.1.0)

  pub walk-asked : (w : Cursor) → walk_refusal y w ≡ 0 → Valid y × (w.target < y.p) × (w.frame ≤ frames y)
  unfolding walk_refusal
  walk-asked w e =
      let p = (refusal_lowest 1 ((validb y, 1) ∷ (ltb w.target y.p, 4) ∷ (leb w.frame (frames y), 4) ∷ []) (omega arith) refl).none e in
      (valid_of y p.0, ltb-true w.target y.p p.1.0, leb-true w.frame (frames y) p.1.1.0)
