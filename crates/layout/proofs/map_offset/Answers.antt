-- `layout::map_offset` meets its contract: the digits of the offset are a unit of a group, and its place gives the image byte.
use mathlib.Core.Path.{refl, sym, ap, ◌∙◌, subst⁻¹}
use Prim.Native.Nat.{ℕ, ◌<◌}
use native.Mathlib.Nat.{mul-le-mul}
use native.Mathlib.Omega.{arith}
use Rattle.lists.proofs.Answering.{refused, handed_by}
use Rattle.lists.specs.Refusal.{refused-answer, accepted_answer}
use Rattle.numbers.specs.Layouts.{frames}
use Rattle.place.specs.declared.Place.{Place}
use Rattle.place.specs.PlaceLaws.{place_in}
use Rattle.place.specs.Bytes.{group_of, unit_in, byte_in, spot_of, image_byte}
use Rattle.place.specs.ByteLaws.{data_bytes, byte_lt, group_lt, unit_in_width}
use Rattle.layout.specs.Offsets.{mapped_of}
use Rattle.layout.specs.Asked.{offset_asked}
use Rattle.layout.specs.ForC.{mapped_by}
use Rattle.layout.proofs.map_offset.Goals as goal

pub returns-in_err-check_offset : goal.returns-in_err-check_offset
unfolding mapped_of
returns-in_err-check_offset c =
    handed_by mapped_by _ c.in_err-check_offset.field-0.0 c.from_residual.ensures.1
    (refused-answer (λ (n : ℕ). record { refusal = n; group = 0; unit = 0; byte = 0; image = 0 }) _ c.in_err-check_offset.ensures (refused _))

pub shape_of-s-requires : goal.shape_of-s-requires
shape_of-s-requires c = (offset_asked _ _ (sym c.in_ok-check_offset.ensures)).0

pub overflow_mul-data : goal.overflow_mul-data
overflow_mul-data c = let v = (offset_asked _ _ (sym c.in_ok-check_offset.ensures)).0 in omega (arith, mul-le-mul v.few_data v.few_bytes)

pub nonzero_div-group : goal.nonzero_div-group
nonzero_div-group c = data_bytes c.args.y (offset_asked _ _ (sym c.in_ok-check_offset.ensures)).0

pub nonzero_rem-unit : goal.nonzero_rem-unit
nonzero_rem-unit c = data_bytes c.args.y (offset_asked _ _ (sym c.in_ok-check_offset.ensures)).0

pub nonzero_div-unit : goal.nonzero_div-unit
nonzero_div-unit c = (offset_asked _ _ (sym c.in_ok-check_offset.ensures)).0.some_bytes

pub nonzero_rem-byte : goal.nonzero_rem-byte
nonzero_rem-byte c = data_bytes c.args.y (offset_asked _ _ (sym c.in_ok-check_offset.ensures)).0

pub nonzero_rem-byte-2 : goal.nonzero_rem-byte-2
nonzero_rem-byte-2 c = (offset_asked _ _ (sym c.in_ok-check_offset.ensures)).0.some_bytes

pub place_of-at-requires : goal.place_of-at-requires
unfolding group_of unit_in
place_of-at-requires c = let a = (offset_asked _ _ (sym c.in_ok-check_offset.ensures)) in
    let y = c.args.y in
    let x = c.args.offset in
    (a.0, c.shape_of-s.ensures, group_lt y a.0 x a.1, unit_in_width y a.0 x)

pub spot_of-image-requires : goal.spot_of-image-requires
unfolding group_of unit_in byte_in
spot_of-image-requires c = let a = (offset_asked _ _ (sym c.in_ok-check_offset.ensures)) in
    let y = c.args.y in
    let x = c.args.offset in
    let inside =
    subst⁻¹ (λ (p : Place). (p.frame < frames y) × (p.target < y.p)) c.place_of-at.ensures (place_in y a.0 _ _ (unit_in_width y a.0 x) (group_lt y a.0 x a.1)) in
    (a.0, c.shape_of-s.ensures, inside.1, inside.0, byte_lt y a.0 x)

pub returns : goal.returns
unfolding mapped_of group_of unit_in byte_in image_byte
returns c = let y = c.args.y in
    let x = c.args.offset in
    ap (λ (i : ℕ). record { refusal = 0; group = group_of y x; unit = unit_in y x; byte = byte_in y x; image = i })
    (c.spot_of-image.ensures.0 ∙ ap (λ (p : Place). spot_of y p (byte_in y x)) c.place_of-at.ensures)
    ∙ accepted_answer _ _ c.in_ok-check_offset.ensures refl
