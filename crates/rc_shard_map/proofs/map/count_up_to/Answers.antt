use Rattle.std.proofs.Common.{rules}
use Rattle.std.proofs.lemmas.List.Sorted.{IsPartitionPoint-from_clause}
use Rattle.rc_shard_map.proofs.Halves.{reaches, parted, counted}
use Rattle.rc_shard_map.proofs.map.count_up_to.Goals as goal

pub returns-clause-count : goal.returns-clause-count
returns-clause-count c =
    counted c.args.key.now c.args.splits.now c.partition_point.result c.partition_point.ensures.bound
    (IsPartitionPoint-from_clause (reaches c.args.key.now) _ _ c.partition_point.ensures.partitioned (parted c.args.key.now c.args.splits.now c.requires)
    (λ a r q called. search rules))
