-- `Cursor::step` meets its contract: refused with the walk's number, done at the last frame, or the unit with the next cursor.
use mathlib.Core.Path.{refl, sym, ap, ◌∙◌}
use Prim.Native.Nat.{ℕ, ◌+◌, ◌≤◌, ◌<◌}
use native.Mathlib.Omega.{arith}
use lib.Dec.{ltb}
use borrow.Author.Tests.{lt-ltb, le-ltb}
use Rattle.lists.specs.Pick.{pick_true, pick-false}
use Rattle.lists.proofs.Answering.{refused}
use Rattle.lists.specs.Refusal.{refused-answer, accepted_answer}
use Rattle.numbers.specs.Layouts.{frames}
use Rattle.place.specs.declared.Unit.{Unit}
use Rattle.layout.specs.declared.Step.TheVariants.{At, Refused}
use Rattle.layout.specs.Walk.{step_of}
use Rattle.layout.specs.Asked.{walk-asked}
use Rattle.layout.proofs.Cursor.step.Goals as goal

pub returns-in-Err : goal.returns-in-Err
unfolding step_of
returns-in-Err c =
    ap (λ (n : ℕ). Refused n c.args.self) c.into.ensures
    ∙ refused-answer (λ (n : ℕ). Refused n c.args.self) _ c.in-Err.ensures (refused _)

pub numbers_of-numbers-requires : goal.numbers_of-numbers-requires
numbers_of-numbers-requires c = (walk-asked _ _ (sym c.in-Ok.ensures)).0

pub returns-then-frames-frame : goal.returns-then-frames-frame
unfolding step_of
returns-then-frames-frame c = let y = c.args.y in
    let w = c.args.self in
    let past : frames y ≤ w.frame = omega arith in
    sym (pick-false (ltb w.frame (frames y)) _ _ (le-ltb _ _ past))
    ∙ accepted_answer _ _ c.in-Ok.ensures refl

pub shape_of-s-requires : goal.shape_of-s-requires
shape_of-s-requires c = (walk-asked _ _ (sym c.in-Ok.ensures)).0

pub unit_of-unit-requires : goal.unit_of-unit-requires
unit_of-unit-requires c = let a = (walk-asked _ _ (sym c.in-Ok.ensures)) in
    let y = c.args.y in
    let h : c.args.self.frame < frames y = omega arith in
    (a.0, c.shape_of-s.ensures, h, a.1)

pub returns : goal.returns
unfolding step_of
returns c = let y = c.args.y in
    let w = c.args.self in
    let left : w.frame < frames y = omega arith in
    ap (λ (u : Unit). At u (record { target = w.target; frame = w.frame + 1 })) c.unit_of-unit.ensures
    ∙ sym (pick_true (ltb w.frame (frames y)) _ _ (lt-ltb _ _ left))
    ∙ accepted_answer _ _ c.in-Ok.ensures refl
