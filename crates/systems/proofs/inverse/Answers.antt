-- `systems::inverse`. What the calls make, row by row, joined in `inverse_made`.
use mathlib.Core.Path.{refl, ap, ◌∙◌}
use mathlib.Core.List.{List, []}
use Prim.Native.Nat.{ℕ}
use lib.ListN.{get_or}
use Rattle.systems.specs.Entry.{inverse_made}
use Rattle.systems.proofs.inverse.Goals as goal

pub returns : goal.returns
returns c =
    let row = λ (i : ℕ). ap (λ (z : List (List ℕ)). get_or z i []) c.cofactors-columns.ensures in
    c.scaled.ensures ∙ inverse_made c.args.m (row 0) (row 1) (row 2) c.dot-det.ensures c.inv.ensures refl refl refl
