-- `coding::fill_last`. The units that are read are the data units with parity unit 0 in place of u, and the coefficients are ones.
use mathlib.Core.Path.{ap, ◌∙◌}
use Prim.Native.Nat.{◌+◌, ◌-◌, ◌*◌}
use native.Mathlib.Omega.{arith}
use Rattle.lists.specs.Span.{span_cong}
use Rattle.coding.specs.Units.{unit_end}
use Rattle.coding.specs.Closing.{stand_in_at, ones_sum, others_apart}
use Rattle.coding.proofs.fill_last.Goals as goal

pub starts_of-starts-requires : goal.starts_of-starts-requires
starts_of-starts-requires c = let a = c.args in
    let p = c.requires in
    (p.0, λ j h. let e = ap (◌* a.unit) (stand_in_at a.n a.u j p.0 p.1 h) in omega (arith, (others_apart a.n a.unit a.u p.1 p.2 j h e).inside))

pub overflow_mul-u : goal.overflow_mul-u
overflow_mul-u c = let a = c.args in
    omega (arith, unit_end a.u a.n a.unit c.requires.1, c.requires.2, c.ranges)

pub combine_in-requires : goal.combine_in-requires
combine_in-requires c = let a = c.args in
    let p = c.requires in (
      p.0,
      omega (arith, unit_end a.u a.n a.unit p.1),
      λ j h. others_apart a.n a.unit a.u p.1 p.2 j h (c.starts_of-starts.ensures j h ∙ ap (◌* a.unit) (stand_in_at a.n a.u j p.0 p.1 h)),
    )

pub returns : goal.returns
returns c = let a = c.args in
    let p = c.requires in
    let g = c.starts_of-starts in
    span_cong _ _ (a.u * a.unit) (a.u * a.unit + a.unit)
    (λ y i l. ones_sum a.n a.unit a.u g.result a.buf.now p.0
    (λ j h. g.ensures j h ∙ ap (◌* a.unit) (stand_in_at a.n a.u j p.0 p.1 h))
    (λ x. omega (arith, c.slice_known-1.given x)) (y - a.u * a.unit))
    c.combine_in.ensures
