-- `layout::find_unit` meets its contract: refused with the place's number and zeros, or accepted with the unit.
use mathlib.Core.Path.{refl, sym, ap, ◌∙◌}
use Prim.Native.Nat.{ℕ}
use Rattle.lists.proofs.Answering.{refused, handed_by}
use Rattle.lists.specs.Refusal.{refused-answer, accepted_answer}
use Rattle.place.specs.declared.Unit.{Unit}
use Rattle.layout.specs.declared.Held.{Held}
use Rattle.layout.specs.Places.{held_of}
use Rattle.layout.specs.Asked.{unit_asked}
use Rattle.layout.specs.ForC.{held_by}
use Rattle.layout.proofs.find_unit.Goals as goal

abbrev found : Unit → Held
found u = record { refusal = 0; group = u.group; unit = u.unit }

pub returns-in_err-check_unit : goal.returns-in_err-check_unit
unfolding held_of
returns-in_err-check_unit c =
    handed_by held_by _ c.in_err-check_unit.field-0.0 c.from_residual.ensures.1
    (refused-answer (λ (n : ℕ). record { refusal = n; group = 0; unit = 0 }) _ c.in_err-check_unit.ensures (refused _))

pub shape_of-s-requires : goal.shape_of-s-requires
shape_of-s-requires c = (unit_asked _ _ _ (sym c.in_ok-check_unit.ensures)).0

pub unit_of-requires : goal.unit_of-requires
unit_of-requires c = let a = (unit_asked _ _ _ (sym c.in_ok-check_unit.ensures)) in (a.0, c.shape_of-s.ensures, a.1, a.2)

pub returns : goal.returns
unfolding held_of
returns c = ap found c.unit_of.ensures ∙ accepted_answer _ _ c.in_ok-check_unit.ensures refl
