-- `survey::fill_by_units` meets its contract. The loop keeps: what was told of the units passed, and the cell of the next.
use Rattle.std.proofs.Common.{◌≡◌, ℕ, ◌+◌, ◌<◌, ◌≢◌, length, ap, ◌∙◌, arith, get_or-set_other, get_or-set_same, below_more}
use Rattle.std.proofs.Math.Path.{subst⁻¹}
use Rattle.numbers.specs.declared.Layout.{Layout}
use Rattle.numbers.specs.Layouts.{Valid, width, frames, all_groups}
use Rattle.place.specs.declared.Cell.{Cell}
use Rattle.place.specs.declared.Place.{Place}
use Rattle.place.specs.Places.{cell_of, place_of}
use Rattle.place.specs.PlaceLaws.{cell_in, place_at, place_in}
use Rattle.survey.proofs.fill_by_units.Goals as goal

-- the cell of a unit lies in the pool
inside : (y : Layout) → Valid y → (g u : ℕ) → u < width y → g < all_groups y → (a : Cell) → a ≡ cell_of y g u → (a.frame < frames y) × (a.column < y.p)
inside y v g u hu hg a e = subst⁻¹ (λ (a : Cell). (a.frame < frames y) × (a.column < y.p)) e (cell_in y v g u hu hg)

-- and so does its place
within : (y : Layout) → Valid y → (g u : ℕ) → u < width y → g < all_groups y → (a : Place) → a ≡ place_of y g u → (a.frame < frames y) × (a.target < y.p)
within y v g u hu hg a e = subst⁻¹ (λ (a : Place). (a.frame < frames y) × (a.target < y.p)) e (place_in y v g u hu hg)

pub place_at-a-requires : goal.place_at-a-requires
place_at-a-requires g c = let p = c.requires.units.0 in
    let here = inside c.args.y p.valid c.args.g (c.args.first + c.loop-x.x-index) (omega arith) p.group c.loop-x.cell c.loop-x.invariant.0 in
    omega (arith, here.1, p.valid.few_targets)

pub f-requires : goal.f-requires
f-requires g c = let p = c.requires.units.0 in
    let placed = place_at _ p.valid _ p.shape _ _ _ _ _ p.tile c.loop-x.invariant.0 c.place_at-a.ensures in
    let here = within c.args.y p.valid c.args.g (c.args.first + c.loop-x.x-index) (omega arith) p.group c.place_at-a.result placed in
    c.requires.callable c.place_at-a.result here.0 here.1

pub next_cell-cell-requires : goal.next_cell-cell-requires
next_cell-cell-requires g c = let p = c.requires.units.0 in
    let here = inside c.args.y p.valid c.args.g (c.args.first + c.loop-x.x-index) (omega arith) p.group c.loop-x.cell c.loop-x.invariant.0 in
    (p.valid, here.0, here.1)

pub loop-x-preserved : goal.loop-x-preserved
loop-x-preserved g c = let p = c.requires.units.0 in
    let l = c.loop-x in
    let placed = place_at _ p.valid _ p.shape _ _ _ _ _ p.tile l.invariant.0 c.place_at-a.ensures in
    let next : c.args.first + l.x-index + 1 ≡ c.args.first + (l.x-index + 1) = omega arith in (
      c.next_cell-cell.ensures c.args.g (c.args.first + l.x-index) l.invariant.0 ∙ ap (cell_of c.args.y c.args.g) next,
      below_more _ _
          (λ k h d. let ne : k ≢ l.x-index = omega arith in rw get_or-set_other (l.invariant.1 k h d))
          (λ d. let lt : l.x-index < length l.out = omega arith in
          rw (get_or-set_same, ← placed) c.f.ensures),
    )
