-- `survey::sites_of` meets its contract. The loop keeps: targets and first bytes of the units passed, and the cell of the next.
use mathlib.Core.Path.{◌≡◌, refl, ap, ◌∙◌, subst⁻¹}
use Prim.Native.Nat.{ℕ, ◌<◌}
use native.Mathlib.Omega.{arith}
use borrow.Author.Count.{below_none}
use lib.ListN.{length-set}
use Rattle.lists.specs.Tabulate.{fill_step}
use Rattle.numbers.specs.declared.Layout.{Layout}
use Rattle.numbers.specs.Layouts.{Valid, width, frames, all_groups}
use Rattle.place.specs.declared.Cell.{Cell}
use Rattle.place.specs.declared.Place.{Place}
use Rattle.place.specs.Bytes.{spot_of, spot}
use Rattle.place.specs.Places.{cell_of, place_of}
use Rattle.place.specs.PlaceLaws.{cell_in, place_at, place_in}
use Rattle.homes.specs.Missing.{target_at}
use Rattle.homes.specs.StandingLaws.{few_units, unit_in_lem, target_lt}
use Rattle.survey.proofs.sites_of.Goals as goal

-- the cell of a unit lies in the pool
inside : (y : Layout) → Valid y → (g u : ℕ) → u < width y → g < all_groups y → (a : Cell) → a ≡ cell_of y g u → (a.frame < frames y) × (a.column < y.p)
inside y v g u hu hg a e = subst⁻¹ (λ (a : Cell). (a.frame < frames y) × (a.column < y.p)) e (cell_in y v g u hu hg)

-- and so does its place
within : (y : Layout) → Valid y → (g u : ℕ) → u < width y → g < all_groups y → (a : Place) → a ≡ place_of y g u → (a.frame < frames y) × (a.target < y.p)
within y v g u hu hg a e = subst⁻¹ (λ (a : Place). (a.frame < frames y) × (a.target < y.p)) e (place_in y v g u hu hg)

pub cell_of-cell-requires : goal.cell_of-cell-requires
cell_of-cell-requires c = (c.requires.valid, c.requires.shape, c.requires.group, omega (arith, c.requires.valid.some_data))

pub loop-u-init : goal.loop-u-init
loop-u-init c = (omega arith, refl, refl, below_none _, below_none _, c.cell_of-cell.ensures)

pub place_at-a-requires : goal.place_at-a-requires
place_at-a-requires c = let p = c.requires in
    let here = inside c.args.y p.valid c.args.g c.loop-u.u (unit_in_lem p c.loop-u-test.true) p.group c.loop-u.cell c.loop-u.invariant.5 in
    omega (arith, here.1, p.valid.few_targets)

pub overflow_cast-targets : goal.overflow_cast-targets
overflow_cast-targets c = let p = c.requires in
    let placed = place_at _ p.valid _ p.shape _ _ _ _ _ p.tile c.loop-u.invariant.5 c.place_at-a.ensures in
    omega (arith, ap (λ (p : Place). p.target) placed, target_lt p c.loop-u.u c.loop-u-test.true)

pub bounds-targets-u : goal.bounds-targets-u
bounds-targets-u c = omega (arith, few_units c.requires, c.loop-u-test.true)

pub spot_of-requires : goal.spot_of-requires
spot_of-requires c = let p = c.requires in
    let placed = place_at _ p.valid _ p.shape _ _ _ _ _ p.tile c.loop-u.invariant.5 c.place_at-a.ensures in
    let here = within c.args.y p.valid c.args.g c.loop-u.u (unit_in_lem p c.loop-u-test.true) p.group c.place_at-a.result placed in
    (p.valid, p.shape, here.1, here.0, p.valid.some_bytes)

pub bounds-starts-u : goal.bounds-starts-u
bounds-starts-u c = omega (arith, few_units c.requires, c.loop-u-test.true)

pub next_cell-cell-requires : goal.next_cell-cell-requires
next_cell-cell-requires c = let p = c.requires in
    let here = inside c.args.y p.valid c.args.g c.loop-u.u (unit_in_lem p c.loop-u-test.true) p.group c.loop-u.cell c.loop-u.invariant.5 in
    (p.valid, here.0, here.1)

pub loop-u-preserved : goal.loop-u-preserved
loop-u-preserved c = let a = c.args in
    let p = c.requires in
    let l = c.loop-u in
    let few = few_units p in
    let placed = place_at _ p.valid _ p.shape _ _ _ _ _ p.tile l.invariant.5 c.place_at-a.ensures in (
      omega (arith, c.loop-u-test.true),
      length-set l.targets l.u _ ∙ l.invariant.1,
      length-set l.starts l.u _ ∙ l.invariant.2,
      fill_step (target_at a.y a.g) l.targets l.u _ 0 (omega (arith, few, c.loop-u-test.true)) (ap (λ (p : Place). p.target) placed) l.invariant.3,
      fill_step (λ k. spot a.y a.g k 0) l.starts l.u _ 0 (omega (arith, few, c.loop-u-test.true))
          (c.spot_of.ensures.0 ∙ ap (λ (p : Place). spot_of a.y p 0) placed) l.invariant.4,
      c.next_cell-cell.ensures a.g l.u l.invariant.5,
    )

pub returns : goal.returns
returns c = let i = c.loop-u.invariant in
    let w = c.requires.shape.w_is in
    record {
      targets_are = λ u h. i.3 u (omega (arith, w));
      starts_are = λ u h. i.4 u (omega (arith, w));
    }
