-- `place::spot_of` meets its contract: the rows are the layout's.
use Rattle.std.proofs.Common.{◌≡◌, ℕ, ◌+◌, ◌*◌, ◌<◌, ap}
use Rattle.std.proofs.Math.Path.{subst⁻¹}
use Rattle.numbers.specs.Layouts.{image_length}
use Rattle.place.specs.Bytes.{spot_of}
use Rattle.place.specs.ByteLaws.{spot-lt}
use Rattle.place.proofs.spot_of.Goals as goal

pub returns : goal.returns
unfolding spot_of
returns c = let y = c.args.y in
    let a = c.args.a in
    let o = c.args.o in
    let e : a.target * (c.args.s.l * y.t * y.u) + a.frame * y.u + o ≡ spot_of y a o =
    ap (λ (l : ℕ). a.target * (l * y.t * y.u) + a.frame * y.u + o) c.requires.1.l_is in
    (e, subst⁻¹ (λ (x : ℕ). x < image_length y) e (spot-lt y c.requires.0 a o c.requires.2 c.requires.3 c.requires.4))
