-- A run over the slice, said with lists.
use Rattle.std.specs.Prelude.{◌≡◌, ℕ, suc, ◌+◌, ◌-◌, List, ◌∷◌, ◌++◌, length, drop}
use Rattle.std.proofs.Common.{ap, ◌∙◌, arith}
use Rattle.std.proofs.Math.Seq.{take-append_seam, drop-append_seam, drop-append-add}
use Rattle.entries.specs.declared.Entry.{Entry}
use Rattle.entries.specs.declared.Way.TheVariants.{Up, Down}
use Rattle.entries.specs.Roll.{rolled}

-- past one element more
drop_one_more : (ps zs : List Entry) (z : Entry) → drop (suc (length ps)) (ps ++ z ∷ zs) ≡ zs
drop_one_more ps zs z =
    let e : suc (length ps) ≡ length ps + 1 = omega arith in
    ap (λ (j : ℕ). drop j (ps ++ z ∷ zs)) e ∙ drop-append-add ps (z ∷ zs) 1

-- a run upwards puts c in front of qs, and the record after qs is gone
pub rolled_up : (ps qs : List Entry) (c z : Entry) (zs : List Entry)
    → rolled Up (length ps) (length ps + suc (length qs)) c (ps ++ (qs ++ z ∷ zs)) ≡ ps ++ c ∷ (qs ++ zs)
rolled_up ps qs c z zs =
    let many : length ps + suc (length qs) - length ps - 1 ≡ length qs = omega arith in
    cc (
      many,
      take-append_seam ps (qs ++ z ∷ zs),
      drop-append_seam ps (qs ++ z ∷ zs),
      drop-append-add ps (qs ++ z ∷ zs) (suc (length qs)),
      take-append_seam qs (z ∷ zs),
      drop_one_more qs zs z,
    )

-- a run downwards takes z out, and puts c behind qs
pub rolled_down : (ps qs : List Entry) (c z : Entry) (zs : List Entry)
    → rolled Down (length ps) (length ps + suc (length qs)) c (ps ++ z ∷ (qs ++ zs)) ≡ ps ++ (qs ++ c ∷ zs)
rolled_down ps qs c z zs =
    let many : length ps + suc (length qs) - length ps - 1 ≡ length qs = omega arith in
    cc (
      many,
      take-append_seam ps (z ∷ (qs ++ zs)),
      drop_one_more ps (qs ++ zs) z,
      drop-append-add ps (z ∷ (qs ++ zs)) (suc (length qs)),
      take-append_seam qs zs,
      drop-append_seam qs zs,
    )
