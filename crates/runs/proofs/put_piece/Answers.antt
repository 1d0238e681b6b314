-- `runs::put_piece`. A copy into a part of a slice leaves the bytes around it (`put_span`), and what is copied are the bytes that were taken up.
use Rattle.std.specs.Prelude.{◌≡◌, ℕ, ◌+◌, ◌-◌, ◌<◌, ◌≤◌, List, length, get_or}
use Rattle.std.proofs.Common.{arith, ap, ◌∙◌}
use Rattle.std.proofs.Math.Path.{subst⁻¹}
use Rattle.std.proofs.lemmas.List.{places}
use Rattle.kernel.proofs.Put.{put, put_span}
use Rattle.runs.specs.Held.{run_of}
use Rattle.runs.specs.Run.{run_set, run_set_span}
use Rattle.runs.proofs.put_piece.Goals as goal

-- `len` bytes put into those of `l` from `to` on
put_as : (to len m : ℕ) (f : ℕ → ℕ) (l s : List ℕ) → m ≡ len → length s ≡ len → to + len ≤ length l → ((o : ℕ) → o < len → get_or s o 0 ≡ f o)
    → put to m l s ≡ run_set to len f l
put_as to len m f l s i same h e =
    subst⁻¹ (λ (x : ℕ). put to x l s ≡ run_set to len f l) i
    (run_set_span to len _ _ l _ h (put_span to len l s h same) (λ o b. ap (λ (x : ℕ). get_or s x 0) (let q : to + o - to ≡ o = omega arith in q) ∙ e o b))

pub returns : goal.returns
unfolding run_of
returns g c = let a = c.args in
    let first = c.copy_from_slice.ensures.after in
    let second = c.copy_from_slice-2.ensures.after in
    put_as a.to g.row.M _ (run_of a.src.now a.from) a.out.now _ (omega arith) (rw second (rw first (search (arith, places)))) c.requires.0
    (λ o b. rw second (rw first (search (arith, places))))
