-- `group::rebuild`. An accepted call has shown what `coding::rebuild` asks for; the flags are the named set; a refused call touches nothing.
use mathlib.Core.Path.{sym, ap, ◌∙◌, subst⁻¹}
use mathlib.Core.Bool.{Bool}
use Prim.Native.Nat.{ℕ}
use native.Mathlib.Omega.{arith}
use lib.ListN.{length}
use Rattle.lists.specs.Refusal.{grant_yes, grant_no}
use Rattle.lists.proofs.Answering.{refused, handed_on}
use Rattle.parity.specs.Group.{Solvable}
use Rattle.coding.specs.Buffer.{rebuilt_of}
use Rattle.group.specs.Rebuild.{rebuilt_group}
use Rattle.group.specs.Accepted.{rebuild_accepted, accepted_solvable}
use Rattle.group.proofs.rebuild.Goals as goal

pub flags-requires : goal.flags-requires
flags-requires c = let a = c.args in
    let p = rebuild_accepted a.y a.missing.now (length a.buf.now) (sym c.in_ok-check_rebuild.ensures) in
    let v = p.valid in
    λ i h. let w = p.units i h in omega arith

pub rebuild-requires : goal.rebuild-requires
rebuild-requires c = let a = c.args in
    let p = rebuild_accepted a.y a.missing.now (length a.buf.now) (sym c.in_ok-check_rebuild.ensures) in
    let v = p.valid in
    (subst⁻¹ (Solvable a.y.n a.y.k) c.flags.ensures (accepted_solvable a.y a.missing.now (length a.buf.now) p), omega arith, p.size)

pub returns-in_err-check_rebuild : goal.returns-in_err-check_rebuild
unfolding rebuilt_group
returns-in_err-check_rebuild c = record {
  answers = handed_on _ c.in_err-check_rebuild.field-0.0 c.from_residual.ensures.1 c.in_err-check_rebuild.ensures;
  bytes = sym (grant_no _ _ _ (λ z. refused c.in_err-check_rebuild.field-0.0 (c.in_err-check_rebuild.ensures ∙ z)));
}

pub returns : goal.returns
unfolding rebuilt_group
returns c = let a = c.args in
    record {
      answers = c.in_ok-check_rebuild.ensures;
      bytes = c.rebuild.ensures ∙ ap (λ (m : ℕ → Bool). rebuilt_of a.y.n a.y.k a.y.u m a.buf.now) c.flags.ensures
          ∙ sym (grant_yes _ _ _ (sym c.in_ok-check_rebuild.ensures));
    }
