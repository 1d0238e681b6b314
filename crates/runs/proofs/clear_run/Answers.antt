-- `runs::clear_run`. Zeros in a part of a slice leave the bytes around it (`put_span`).
use Rattle.std.specs.Prelude.{◌≡◌, ℕ, ◌+◌, ◌-◌, length}
use Rattle.std.proofs.Common.{arith}
use Rattle.std.proofs.Math.Path.{subst⁻¹}
use Rattle.std.proofs.lemmas.List.{places}
use Rattle.kernel.proofs.Put.{put, put_span}
use Rattle.runs.specs.Held.{zero_byte}
use Rattle.runs.specs.Run.{run_set, run_set_span}
use Rattle.runs.proofs.clear_run.Goals as goal

pub returns : goal.returns
unfolding zero_byte
returns c = let a = c.args in
    let s = c.fill.new.self in
    let e : a.to + a.len - a.to ≡ a.len = omega arith in
    let n : length s ≡ a.len = search (arith, places, c.fill.ensures.len) in
    let z = c.fill.ensures.after (λ y h. h) in
    subst⁻¹ (λ (k : ℕ). put a.to k a.out.now s ≡ run_set a.to a.len zero_byte a.out.now) e
    (run_set_span a.to a.len _ _ a.out.now _ c.requires (put_span a.to a.len a.out.now s c.requires n) (λ o h. rw z (search (arith, places))))
