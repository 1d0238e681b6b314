-- `hexline::hex_line` meets its contract. Refused, the line is zeros; accepted, what was tested is what the place and the line ask for.
use mathlib.Core.Path.{refl, sym, ◌∙◌}
use native.Mathlib.Omega.{arith}
use Rattle.lists.proofs.Answering.{refused}
use Rattle.hexline.specs.HexCall.{accepted_line, refused-line, unit_fits, written-line}
use Rattle.hexline.proofs.hex_line.Goals as goal

pub returns-in-Err : goal.returns-in-Err
returns-in-Err c = let e = c.in-Err.ensures in
    record { answer = e; line = c.clear.ensures ∙ refused-line _ _ _ _ _ (λ z. refused _ (e ∙ z)) }

pub shape_of-requires : goal.shape_of-requires
shape_of-requires c = (accepted_line _ _ _ _ _ (sym c.in_default.ensures)).valid

pub spot_of-begins-requires : goal.spot_of-begins-requires
spot_of-begins-requires c = let a = accepted_line _ _ _ _ _ (sym c.in_default.ensures) in (a.valid, c.shape_of.ensures, a.target_in, a.frame_in, omega (arith, a.valid.some_bytes))

pub write_line-requires : goal.write_line-requires
write_line-requires c = let a = accepted_line _ _ _ _ _ (sym c.in_default.ensures) in (
  unit_fits _ c.args.image.now _ _ _ _ a c.spot_of-begins.ensures.0,
  omega (arith, a.exact),
)

pub returns : goal.returns
returns c = let e = c.in_default.ensures in
    record {
      answer = e;
      line = written-line _ _ _ _ _ _ _ _ (sym e) c.spot_of-begins.ensures.0 refl c.write_line.ensures;
    }
