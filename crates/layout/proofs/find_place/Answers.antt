-- `layout::find_place` meets its contract: refused with the place's number and zeros, or accepted with the place.
use mathlib.Core.Path.{refl, sym, ap, ◌∙◌, subst⁻¹}
use Prim.Native.Nat.{ℕ, ◌<◌}
use Rattle.lists.proofs.Answering.{refused, handed_by}
use Rattle.lists.specs.Refusal.{refused-answer, accepted_answer}
use Rattle.numbers.specs.Layouts.{frames}
use Rattle.place.specs.declared.Place.{Place}
use Rattle.place.specs.PlaceLaws.{place_in}
use Rattle.place.specs.Bytes.{spot_of}
use Rattle.layout.specs.declared.Placed.{Placed}
use Rattle.layout.specs.Places.{placed_of}
use Rattle.layout.specs.Asked.{place-asked}
use Rattle.layout.specs.ForC.{placed_by}
use Rattle.layout.proofs.find_place.Goals as goal

abbrev nowhere : ℕ → Placed
nowhere n = record { refusal = n; frame = 0; target = 0; begins = 0 }

abbrev found : Place → ℕ → Placed
found a b = record { refusal = 0; frame = a.frame; target = a.target; begins = b }

pub returns-in_err-check_place : goal.returns-in_err-check_place
unfolding placed_of
returns-in_err-check_place c =
    handed_by placed_by _ c.in_err-check_place.field-0.0 c.from_residual.ensures.1
    (refused-answer nowhere _ c.in_err-check_place.ensures (refused _))

pub shape_of-s-requires : goal.shape_of-s-requires
shape_of-s-requires c = (place-asked _ _ _ (sym c.in_ok-check_place.ensures)).0

pub place_of-place-requires : goal.place_of-place-requires
place_of-place-requires c = let a = (place-asked _ _ _ (sym c.in_ok-check_place.ensures)) in (a.0, c.shape_of-s.ensures, a.1, a.2)

pub spot_of-begins-requires : goal.spot_of-begins-requires
spot_of-begins-requires c = let a = (place-asked _ _ _ (sym c.in_ok-check_place.ensures)) in
    let y = c.args.y in
    let inside = subst⁻¹ (λ (p : Place). (p.frame < frames y) × (p.target < y.p)) c.place_of-place.ensures (place_in y a.0 _ _ a.2 a.1) in
    (a.0, c.shape_of-s.ensures, inside.1, inside.0, a.0.some_bytes)

pub returns : goal.returns
unfolding placed_of
returns c = let y = c.args.y in
    ap (found c.place_of-place.result) c.spot_of-begins.ensures.0
    ∙ ap (λ (p : Place). found p (spot_of y p 0)) c.place_of-place.ensures
    ∙ accepted_answer _ _ c.in_ok-check_place.ensures refl
