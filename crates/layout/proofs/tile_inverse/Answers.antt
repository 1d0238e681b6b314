-- `layout::tile_inverse` meets its contract: refused with the tile's number and zeros, or accepted with the entries.
use mathlib.Core.Path.{refl, sym, ap, ◌∙◌}
use mathlib.Core.List.{List}
use Prim.Native.Nat.{ℕ}
use Rattle.lists.proofs.Answering.{refused, handed_by}
use Rattle.lists.specs.Refusal.{refused-answer, accepted_answer}
use Rattle.lists.specs.Tabulate.{tabulate, zeros}
use Rattle.layout.specs.declared.Entries.{Entries}
use Rattle.layout.specs.Tiles.{inverted_of}
use Rattle.layout.specs.Asked.{tile_asked}
use Rattle.layout.specs.ForC.{entries_by}
use Rattle.layout.proofs.tile_inverse.Goals as goal

abbrev answer : ℕ → List ℕ → Entries
answer n l = record { refusal = n; entries = l }

pub returns-in_err-check_tile : goal.returns-in_err-check_tile
unfolding inverted_of tabulate
returns-in_err-check_tile c =
    handed_by entries_by _ c.in_err-check_tile.field-0.0 c.from_residual.ensures.1
    (refused-answer (λ (n : ℕ). answer n (zeros 64)) _ c.in_err-check_tile.ensures (refused _))

pub inverse-requires : goal.inverse-requires
inverse-requires c = (tile_asked _ _ (sym c.in_ok-check_tile.ensures)).0

pub returns : goal.returns
unfolding inverted_of
returns c = ap (answer 0) c.inverse.ensures ∙ accepted_answer _ _ c.in_ok-check_tile.ensures refl
