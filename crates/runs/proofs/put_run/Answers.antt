-- `runs::put_run`. Each kind of piece goes on where the one before it ended, and pieces of one byte leave nothing.
use Rattle.std.proofs.Common.{refl, arith, ◌+◌}
use Rattle.runs.specs.Held.{run_of_more}
use Rattle.runs.specs.Run.{run_set_more}
use Rattle.runs.proofs.put_run.Goals as goal

pub returns : goal.returns
returns c = let a = c.args in
    let wide = c.put_pieces-wide in
    let words = c.put_pieces in
    let bytes = c.put_pieces-2 in
    let two = run_set_more _ wide.result words.result _ _ _ _ wide.new.out _ refl (omega (arith, wide.ensures.0, words.ensures.0, c.requires.0))
    (λ o h. run_of_more _ _ _ o) wide.ensures.2 words.ensures.2 in
    run_set_more _ (wide.result + words.result) bytes.result _ _ _ _ words.new.out _
    (omega (arith, wide.ensures.0, words.ensures.0, bytes.ensures.0, bytes.ensures.1)) c.requires.0
    (λ o h. run_of_more _ _ _ o) two bytes.ensures.2
