-- `group::encode`. An accepted call has shown what `coding::encode` asks for; a refused one touches nothing.
use mathlib.Core.Path.{sym, ◌∙◌}
use native.Mathlib.Omega.{arith}
use lib.ListN.{length}
use Rattle.lists.specs.Refusal.{grant_yes, grant_no}
use Rattle.lists.proofs.Answering.{refused, handed_on}
use Rattle.group.specs.Encode.{encoded}
use Rattle.group.specs.Accepted.{encode_accepted}
use Rattle.group.proofs.encode.Goals as goal

pub encode-requires : goal.encode-requires
encode-requires c = let a = c.args in
    let p = encode_accepted a.y (length a.buf.now) (sym c.in_ok-check_encode.ensures) in
    let v = p.0 in
    (omega arith, omega arith, omega arith, p.1)

pub returns-in_err-check_encode : goal.returns-in_err-check_encode
unfolding encoded
returns-in_err-check_encode c = record {
  answers = handed_on _ c.in_err-check_encode.field-0.0 c.from_residual.ensures.1 c.in_err-check_encode.ensures;
  bytes = sym (grant_no _ _ _ (λ z. refused c.in_err-check_encode.field-0.0 (c.in_err-check_encode.ensures ∙ z)));
}

pub returns : goal.returns
unfolding encoded
returns c = record {
  answers = c.in_ok-check_encode.ensures;
  bytes = c.encode.ensures ∙ sym (grant_yes _ _ _ (sym c.in_ok-check_encode.ensures));
}
