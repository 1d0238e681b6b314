-- `parity::Group::there`. The flags of the k units from n on.
use Rattle.std.proofs.Common.{false, ◌≡◌, ◌≤◌, ◌+◌, ◌-◌, List, ℕ, length, refl, arith, subst}
use Rattle.std.proofs.Math.Path.{subst⁻¹}
use Rattle.lists.specs.Count.{count-le}
use Rattle.lists.specs.Those.{length-those}
use Rattle.parity.specs.Matrix.{present, Holds}
use Rattle.parity.proofs.Turns.{part_of_flags}
use Rattle.parity.proofs.Group.there.Goals as goal

pub places-requires : goal.places-requires
places-requires c =
    let g = c.args.self.now in
    let same : g.n + g.k - g.n ≡ g.k = omega arith in
    subst⁻¹ (λ (l : List ℕ). length l ≤ 3)
    (part_of_flags false g.miss g.n g.k _ (present g.miss g.n) same (omega (arith, g.solvable.data_max, g.solvable.parity_max)) (λ u h. refl))
    (omega (arith, length-those (present g.miss g.n) g.k, count-le (present g.miss g.n) g.k, g.solvable.parity_max))

pub returns : goal.returns
returns c =
    let g = c.args.self.now in
    let same : g.n + g.k - g.n ≡ g.k = omega arith in
    subst (λ (l : List ℕ). Holds l c.places.result.at c.places.result.count)
    (part_of_flags false g.miss g.n g.k _ (present g.miss g.n) same (omega (arith, g.solvable.data_max, g.solvable.parity_max)) (λ u h. refl)) c.places.ensures
