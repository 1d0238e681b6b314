-- `runs::put_pieces`. Each piece goes on where those before it end.
use Rattle.std.proofs.Common.{refl, ap, ◌∙◌, arith, ◌≡◌, ℕ, List, ◌+◌, length, get_or}
use Rattle.runs.specs.Held.{run_of}
use Rattle.runs.specs.Run.{length-run_set, run_set-none, run_set_more}
use Rattle.runs.proofs.put_pieces.Goals as goal

-- the byte of a run by its place alone
run_of_same : (src : List ℕ) (from from' o o' : ℕ) → from + o ≡ from' + o' → run_of src from o ≡ run_of src from' o'
unfolding run_of
run_of_same src from from' o o' q = ap (λ (x : ℕ). get_or src x 0) q

pub loop-done-init : goal.loop-done-init
loop-done-init g c = (omega arith, refl, run_set-none _ _ _)

pub loop-done-preserved : goal.loop-done-preserved
loop-done-preserved g c = let l = c.loop-done in
    let inv = l.invariant in (
      omega (arith, c.loop-done-test.true),
      ap length c.put_piece.ensures ∙ length-run_set _ _ _ _ ∙ inv.1,
      run_set_more _ l.done g.row.M _ _ _ _ l.out _ (omega arith) (omega (arith, c.loop-done-test.true, c.requires.1)) (λ o h. run_of_same _ _ _ o _ (omega arith))
          inv.2 c.put_piece.ensures,
    )
