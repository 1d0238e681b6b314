-- `homes::moved`. The loop keeps: a content passed is at the spare where its home was on the entry, else at its home; that is the move.
use mathlib.Core.Path.{refl, sym, ◌∙◌}
use Prim.Native.Nat.{ℕ, ◌+◌}
use native.Mathlib.Omega.{arith}
use borrow.Author.Count.{below_none}
use lib.Dec.{eqb}
use lib.ListN.{length-set}
use Rattle.std.proofs.Common.{eq-eqb, ne_eqb}
use Rattle.lists.specs.Pick.{pick, pick_true, pick-false}
use Rattle.lists.specs.Tabulate.{at, fill_step}
use Rattle.homes.specs.Steps.{move_is}
use Rattle.homes.proofs.moved.Goals as goal
use Rattle.homes.proofs.moved.Goals.{then-from-gone, else-from-gone}

pub overflow_add-to : goal.overflow_add-to
overflow_add-to c = let u = c.requires.0 in omega (arith, c.free_spare.ensures)

pub loop-c-init : goal.loop-c-init
loop-c-init c = (omega arith, refl, below_none _)

pub bounds-targets-home : goal.bounds-targets-home
bounds-targets-home c = let u = c.requires.0 in let h = u.units c.loop-c.c c.loop-c-test.true in omega arith

pub loop-c-preserved : goal.loop-c-preserved
loop-c-preserved c = let a = c.args in
    let l = c.loop-c in
    let u = c.requires.0 in
    let to : ℕ = a.m + c.free_spare.result in
    let gone : ℕ = at a.failed a.j in (
      omega arith,
      length-set l.after l.c _ ∙ l.invariant.1,
      fill_step (λ k. pick (eqb (at a.targets (at a.homes k)) gone) to (at a.homes k)) l.after l.c _ 0 (omega arith)
          (elim c.if-from-gone.branch [
            | then-from-gone w ↦ w.after-is ∙ sym (pick_true _ _ _ (eq-eqb _ _ (sym c.from.ensures ∙ w.if-from-gone.true)))
            | else-from-gone w ↦ w.after-is ∙ sym (pick-false _ _ _ (ne_eqb _ _ (λ q. w.if-from-gone.false (c.from.ensures ∙ q))))
          ]) l.invariant.2,
    )

pub returns : goal.returns
returns c = λ k h.
    let a = c.args in
    move_is (at a.targets) a.m a.spares (at a.failed) a.j (at a.homes) k c.free_spare.ensures.0 refl (c.loop-c.invariant.2 k (omega arith))
