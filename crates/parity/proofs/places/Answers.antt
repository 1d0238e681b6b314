-- `parity::places`. The loop keeps: what is found below j. A turn is `found-one` or `found_none`.
use Rattle.std.proofs.Common.{◌≡◌, ◌<◌, ◌∙◌, ℕ, false, length, get_or, arith, subst}
use Rattle.lists.specs.Those.{those}
use Rattle.parity.specs.Matrix.{set_to, Holds}
use Rattle.parity.specs.Steps.{found-start, found-one, found_none, held, room}
use Rattle.parity.proofs.Turns.{set_to_test}
use Rattle.parity.proofs.places.Goals as goal
use Rattle.parity.proofs.places.Goals.{then-flag-wanted, else-flag-wanted}

pub loop-j-init : goal.loop-j-init
loop-j-init c = (omega arith, found-start (set_to c.args.wanted c.args.flags.now))

pub bounds-at-count : goal.bounds-at-count
bounds-at-count c = let a = c.args in let l = c.loop-j in
    room (set_to a.wanted a.flags.now) (length a.flags.now) l.j l.invariant.1.count_is c.loop-j-test.true
    (set_to_test a.wanted (get_or a.flags.now l.j false) ∙ c.if-flag-wanted.true) c.requires

pub offset_bounds-at-count : goal.offset_bounds-at-count
offset_bounds-at-count c = let h : c.loop-j.count < 3 = bounds-at-count c in omega arith

pub overflow_add-count : goal.overflow_add-count
overflow_add-count c = let h : c.loop-j.count < 3 = bounds-at-count c in omega arith

pub loop-j-preserved : goal.loop-j-preserved
loop-j-preserved c =
    let a = c.args in
    let l = c.loop-j in
    let f = set_to a.wanted a.flags.now in
    let test = set_to_test a.wanted (get_or a.flags.now l.j false) in (
      omega arith,
      elim c.if-flag-wanted.branch [
        | then-flag-wanted w ↦ let t = test ∙ w.if-flag-wanted.true in
            held w.at-is w.count-is (found-one f l.j l.count l.at l.invariant.1 t (room f (length a.flags.now) l.j l.invariant.1.count_is c.loop-j-test.true t c.requires))
        | else-flag-wanted w ↦ held w.at-is w.count-is (found_none f l.j l.count l.at l.invariant.1 (test ∙ w.if-flag-wanted.false))
      ],
    )

pub returns : goal.returns
returns c =
    let l = c.loop-j in
    let e : l.j ≡ length c.args.flags.now = omega arith in
    subst (λ (z : ℕ). Holds (those (set_to c.args.wanted c.args.flags.now) z) l.at l.count) e l.invariant.1
