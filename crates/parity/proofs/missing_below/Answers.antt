-- `parity::missing_below`. The flags of the first n units.
use Rattle.std.proofs.Common.{true, ap, zero-add, ◌≤◌, List, ℕ, length, refl, arith, subst}
use Rattle.std.proofs.Math.Path.{subst⁻¹}
use Rattle.parity.specs.Matrix.{flag, Holds}
use Rattle.parity.proofs.Turns.{part_of_flags}
use Rattle.parity.proofs.missing_below.Goals as goal

pub places-requires : goal.places-requires
places-requires c = let a = c.args in
    subst⁻¹ (λ (l : List ℕ). length l ≤ 3) (part_of_flags true a.miss 0 a.n a.n (flag a.miss) refl (omega arith) (λ u h. ap (flag a.miss) (zero-add u))) c.requires.1

pub returns : goal.returns
returns c = let a = c.args in
    subst (λ (l : List ℕ). Holds l c.places.result.at c.places.result.count)
    (part_of_flags true a.miss 0 a.n a.n (flag a.miss) refl (omega arith) (λ u h. ap (flag a.miss) (zero-add u))) c.places.ensures
