-- `tile::own_indices` meets its contract: the closure answers its index.
use Rattle.std.proofs.Common.{rules, of_calls}
use Rattle.lists.specs.Tabulate.{tabulated}
use Rattle.tile.specs.Permutation.{own}
use Rattle.tile.proofs.own_indices.Goals as goal

pub returns : goal.returns
unfolding own
returns c = tabulated 64 (λ t. t) c.from_fn.result 0 c.from_fn.ensures.items.long (λ i h. let called = c.from_fn.ensures.items.at i 0 h in search (rules, of_calls))
