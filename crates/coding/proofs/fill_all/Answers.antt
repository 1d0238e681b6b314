-- `coding::fill_all`. The loop keeps: the first q missing units are filled, for the set of missing units for which all was worked out. A turn is
-- `slots_turn`, by the row of the unit, or `closing_turn`, by the plain sum.
use Rattle.std.proofs.Common.{◌≡◌, ℕ, ◌+◌, ◌*◌, ◌<◌, ◌≤◌, List, Bool, ap, ◌∙◌, length, get_or, arith, Option}
use Rattle.std.proofs.Math.Path.{subst⁻¹}
use Rattle.parity.specs.Local.{slot-there}
use Rattle.parity.specs.Rows.{slot}
use Rattle.parity.specs.Group.{Solvable, gone}
use Rattle.parity.specs.Matrix.{flag, Holds, RowsFor}
use Rattle.coding.specs.Closing.{IsClosing, is_due}
use Rattle.coding.specs.Units.{unit_end}
use Rattle.coding.specs.Mending.{Mended, Ready, turn_lt, unit_fits, slots_apart, slots_turn, closing_data, parity_fits, closing_turn, mend_all}
use Rattle.coding.proofs.fill_all.Goals as goal
use Rattle.coding.proofs.fill_all.Goals.{then-eq, else-eq}

-- what was worked out before the loop
ready : {n k unit : ℕ} {miss : ℕ → Bool} {units : List ℕ} {total : ℕ} {rows : List (List ℕ)} {starts : List ℕ} {last : Option ℕ} (slots : List ℕ) → Solvable n k miss
    → Holds (gone n k miss) units total → IsClosing last n miss → RowsFor n k miss rows → ((j : ℕ) → j < n → get_or slots j 0 ≡ slot n k miss j)
    → ((j : ℕ) → j < n → get_or starts j 0 ≡ get_or slots j 0 * unit) → Ready n k unit miss units total rows starts last
ready {unit = unit} slots s h l r p q =
    record { solvable = s; units_are = h; rows_are = r; starts_are = λ j i. q j i ∙ ap (◌* unit) (p j i); last_is = l }

pub starts_of-starts-requires : goal.starts_of-starts-requires
starts_of-starts-requires c =
    let a = c.args in
    let p = c.requires in (
      p.0.data_max,
      λ j h.
          let v = (slot-there a.n a.k (flag a.miss) p.0 j h).1 in
          omega (arith, ap (◌* a.unit) (c.slots.ensures j h), unit_end (slot a.n a.k (flag a.miss) j) (a.n + a.k) a.unit v, p.2),
    )

pub offset_bounds-gone-q : goal.offset_bounds-gone-q
offset_bounds-gone-q c =
    let p = c.requires in
    let m = c.loop-q.invariant.2 _ (ready _ p.0 p.3 p.4 c.rows-rows.ensures c.slots.ensures c.starts_of-starts.ensures) in
    omega (arith, turn_lt p.0 p.1 c.args.buf.now p.2 m p.3 c.loop-q-test.true)

pub bounds-gone-q : goal.bounds-gone-q
bounds-gone-q c =
    let p = c.requires in
    let m = c.loop-q.invariant.2 _ (ready _ p.0 p.3 p.4 c.rows-rows.ensures c.slots.ensures c.starts_of-starts.ensures) in
    turn_lt p.0 p.1 c.args.buf.now p.2 m p.3 c.loop-q-test.true

pub fill_last-requires : goal.fill_last-requires
fill_last-requires c =
    let p = c.requires in
    let old = c.args.buf.now in
    let m = c.loop-q.invariant.2 _ (ready _ p.0 p.3 p.4 c.rows-rows.ensures c.slots.ensures c.starts_of-starts.ensures) in (
      p.0.data_max,
      closing_data p.0 p.1 old p.2 m p.3 c.loop-q-test.true (is_due _ _ _ _ c.eq.ensures c.if-eq.true p.4),
      parity_fits p.0 p.1 old p.2 m p.3 c.loop-q-test.true (is_due _ _ _ _ c.eq.ensures c.if-eq.true p.4),
    )

pub offset_bounds-rows-q : goal.offset_bounds-rows-q
offset_bounds-rows-q c =
    let p = c.requires in
    let m = c.loop-q.invariant.2 _ (ready _ p.0 p.3 p.4 c.rows-rows.ensures c.slots.ensures c.starts_of-starts.ensures) in
    omega (arith, turn_lt p.0 p.1 c.args.buf.now p.2 m p.3 c.loop-q-test.true)

pub bounds-rows-q : goal.bounds-rows-q
bounds-rows-q c =
    let p = c.requires in
    let m = c.loop-q.invariant.2 _ (ready _ p.0 p.3 p.4 c.rows-rows.ensures c.slots.ensures c.starts_of-starts.ensures) in
    turn_lt p.0 p.1 c.args.buf.now p.2 m p.3 c.loop-q-test.true

pub overflow_mul-u : goal.overflow_mul-u
overflow_mul-u c =
    let p = c.requires in
    let m = c.loop-q.invariant.2 _ (ready _ p.0 p.3 p.4 c.rows-rows.ensures c.slots.ensures c.starts_of-starts.ensures) in
    omega (arith, unit_fits p.0 p.1 c.args.buf.now p.2 m p.3 c.loop-q-test.true)

pub combine_in-requires : goal.combine_in-requires
combine_in-requires c =
    let p = c.requires in
    let old = c.args.buf.now in
    let r = ready _ p.0 p.3 p.4 c.rows-rows.ensures c.slots.ensures c.starts_of-starts.ensures in
    let m = c.loop-q.invariant.2 _ r in (
      p.0.data_max,
      unit_fits p.0 p.1 old p.2 m p.3 c.loop-q-test.true,
      slots_apart p.0 p.1 old p.2 m p.3 c.loop-q-test.true c.rows-rows.result c.starts_of-starts.result c.rows-rows.ensures r.starts_are,
    )

pub loop-q-preserved : goal.loop-q-preserved
loop-q-preserved c =
    let a = c.args in
    let l = c.loop-q in
    let p = c.requires in
    let Next : List ℕ → Type 0 = λ new. (l.q + 1 ≤ a.gone.count) × (length new ≡ length a.buf.now)
    × ((miss : ℕ → Bool) → Ready a.n a.k a.unit miss a.gone.at a.gone.count c.rows-rows.result c.starts_of-starts.result a.last
    → Mended a.n a.k a.unit miss a.buf.now new (l.q + 1)) in
    elim c.if-eq.branch [
      | then-eq w ↦ subst⁻¹ Next w.buf-is (
        omega arith,
        w.fill_last.ensures.len ∙ l.invariant.1,
        λ miss r. closing_turn r.solvable p.1 a.buf.now p.2 (l.invariant.2 miss r) r.units_are c.loop-q-test.true (is_due _ _ _ _ c.eq.ensures w.if-eq.true r.last_is)
            (λ y. omega (arith, c.slice_known-1.given y)) w.fill_last.ensures,
      )
      | else-eq w ↦ subst⁻¹ Next w.buf-is (
        omega arith,
        w.combine_in.ensures.len ∙ l.invariant.1,
        λ miss r. slots_turn r.solvable p.1 a.buf.now p.2 (l.invariant.2 miss r) r.units_are c.loop-q-test.true c.rows-rows.result
            c.starts_of-starts.result r.rows_are r.starts_are w.combine_in.ensures,
      )
    ]

pub returns : goal.returns
returns c =
    let p = c.requires in
    mend_all p.0 p.1 c.args.buf.now p.2
    (c.loop-q.invariant.2 _ (ready _ p.0 p.3 p.4 c.rows-rows.ensures c.slots.ensures c.starts_of-starts.ensures)) (omega (arith, p.3.count_is))
