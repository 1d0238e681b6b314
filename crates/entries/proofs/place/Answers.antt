-- `entries::place` meets its contract: what it goes past stands in front.
use Rattle.std.proofs.Common.{false, rules}
use Rattle.std.proofs.lemmas.List.Sorted.{IsPartitionPoint-from_clause}
use Rattle.entries.proofs.Points.{below_key, place_is, parted}
use Rattle.entries.proofs.place.Goals as goal

pub returns : goal.returns
returns c = place_is c.args.s.now c.args.key c.partition_point.result c.requires c.partition_point.ensures.bound
    (IsPartitionPoint-from_clause (below_key c.args.key) c.args.s.now c.partition_point.result c.partition_point.ensures.partitioned
    (parted c.args.key false c.args.s.now c.requires) (λ a r q k. search rules))

-- A search by hand would be told by the record in the middle
-- in which half the place lies.
