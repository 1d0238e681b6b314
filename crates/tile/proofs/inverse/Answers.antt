-- `tile::inverse` meets its contract: the permutation's 64 entries are a bijection, so the stores give its inverse.
use Rattle.std.proofs.Common.{ℕ, List, sym, ap, ◌∙◌, subst, le_refl, arith}
use Rattle.tile.specs.Permutation.{inverse_of}
use Rattle.tile.specs.Laws.{Permutes, permutation_bijection}
use Rattle.tile.proofs.inverse.Goals as goal

pub inverted-requires : goal.inverted-requires
inverted-requires c = subst (λ (l : List ℕ). Permutes 64 l) (sym c.permutation.ensures) (permutation_bijection c.args.edition c.args.p c.args.cookie c.args.tile (omega arith) (omega arith) 64 (omega arith) (le_refl 64))

pub returns : goal.returns
returns c = c.inverted.ensures ∙ ap inverse_of c.permutation.ensures
