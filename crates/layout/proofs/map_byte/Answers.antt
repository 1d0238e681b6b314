-- `layout::map_byte` meets its contract: the digits of the image byte are a place and a byte of the unit that lies there.
use mathlib.Core.Path.{refl, sym, ap, ◌∙◌}
use mathlib.Core.Bool.{Bool, false}
use Prim.Native.Nat.{ℕ}
use native.Mathlib.Omega.{arith}
use borrow.Author.Tests.{lt-ltb, le-ltb}
use Rattle.lists.specs.Pick.{pick_true, pick-false}
use Rattle.lists.proofs.Answering.{refused, handed_by}
use Rattle.lists.specs.Refusal.{refused-answer, accepted_answer}
use Rattle.place.specs.declared.Unit.{Unit}
use Rattle.layout.specs.declared.Traced.{Traced}
use Rattle.layout.specs.Offsets.{traced_of}
use Rattle.layout.specs.Traces.{DriveFits, drive_fits, byte_place, found_inside, found-answer}
use Rattle.layout.specs.Asked.{byte_asked}
use Rattle.layout.specs.ForC.{traced_by}
use Rattle.layout.proofs.map_byte.Goals as goal

drive : (c : goal.After-shape_of-s) → DriveFits c.args.y c.shape_of-s.result.l
drive c = drive_fits c.args.y (byte_asked _ _ (sym c.in_ok-check_byte.ensures)).0 c.shape_of-s.result.l c.shape_of-s.ensures.l_some c.shape_of-s.ensures.l_few

pub returns-in_err-check_byte : goal.returns-in_err-check_byte
unfolding traced_of
returns-in_err-check_byte c =
    handed_by traced_by _ c.in_err-check_byte.field-0.0 c.from_residual.ensures.1
    (refused-answer (λ (n : ℕ). record { refusal = n; group = 0; unit = 0; byte = 0; is_data = false; offset = 0 }) _ c.in_err-check_byte.ensures (refused _))

pub shape_of-s-requires : goal.shape_of-s-requires
shape_of-s-requires c = (byte_asked _ _ (sym c.in_ok-check_byte.ensures)).0

pub overflow_mul-drive : goal.overflow_mul-drive
overflow_mul-drive c = omega (arith, drive c)

pub overflow_mul-drive-2 : goal.overflow_mul-drive-2
overflow_mul-drive-2 c = omega (arith, drive c)

pub nonzero_div-target : goal.nonzero_div-target
nonzero_div-target c = (drive c).some

pub nonzero_rem-frame : goal.nonzero_rem-frame
nonzero_rem-frame c = (drive c).some

pub nonzero_div-frame : goal.nonzero_div-frame
nonzero_div-frame c = (byte_asked _ _ (sym c.in_ok-check_byte.ensures)).0.some_bytes

pub nonzero_rem-byte : goal.nonzero_rem-byte
nonzero_rem-byte c = (drive c).some

pub nonzero_rem-byte-2 : goal.nonzero_rem-byte-2
nonzero_rem-byte-2 c = (byte_asked _ _ (sym c.in_ok-check_byte.ensures)).0.some_bytes

pub unit_of-held-requires : goal.unit_of-held-requires
unit_of-held-requires c = let a = (byte_asked _ _ (sym c.in_ok-check_byte.ensures)) in
    let inside = byte_place _ _ _ c.shape_of-s.ensures.l_is a.0 a.1 in
    (a.0, c.shape_of-s.ensures, inside.0, inside.1)

pub offset_of-requires : goal.offset_of-requires
offset_of-requires c = let a = (byte_asked _ _ (sym c.in_ok-check_byte.ensures)) in
    let inside = found_inside _ _ _ c.shape_of-s.ensures.l_is _ c.unit_of-held.ensures a.0 a.1 in
    (a.0, inside.0, c.if-is_data.true, inside.1)

-- the answer with the flag that an offset is there
abbrev flagged : Unit → ℕ → ℕ → Bool → Traced
flagged u o f b = record { refusal = 0; group = u.group; unit = u.unit; byte = o; is_data = b; offset = f }

pub returns-then-is_data : goal.returns-then-is_data
unfolding traced_of
returns-then-is_data c = let is = c.shape_of-s.ensures.l_is in
    ap (flagged _ _ _) (sym (lt-ltb _ _ c.if-is_data.true))
    ∙ found-answer _ _ _ is _ c.unit_of-held.ensures _ (c.offset_of.ensures ∙ sym (pick_true _ _ _ (lt-ltb _ _ c.if-is_data.true)))
    ∙ accepted_answer _ _ c.in_ok-check_byte.ensures refl

pub returns-else-is_data : goal.returns-else-is_data
unfolding traced_of
returns-else-is_data c = let is = c.shape_of-s.ensures.l_is in
    ap (flagged _ _ _) (sym (le-ltb _ _ c.if-is_data.false))
    ∙ found-answer _ _ _ is _ c.unit_of-held.ensures _ (sym (pick-false _ _ _ (le-ltb _ _ c.if-is_data.false)))
    ∙ accepted_answer _ _ c.in_ok-check_byte.ensures refl
