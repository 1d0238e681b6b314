-- `survey::tile_to` meets its contract: the tile in hand is the one asked for, or the permutation is worked out.
use mathlib.Core.Path.{ap, ◌∙◌}
use Rattle.place.specs.Places.{tile_permutation}
use Rattle.survey.proofs.tile_to.Goals as goal

pub returns-then-last-tile : goal.returns-then-last-tile
returns-then-last-tile c = c.requires.1 ∙ ap (tile_permutation c.args.y) c.if-last-tile.true
