use Rattle.std.proofs.Common.{rules}
use Rattle.std.proofs.lemmas.List.Sorted.{IsPartitionPoint-from_clause}
use Rattle.rc_versions.proofs.RowFacts.{is_below, parted, counted}
use Rattle.rc_versions.proofs.places.count_below.Goals as goal

pub returns-clause-count : goal.returns-clause-count
returns-clause-count c =
    counted c.args.key.now c.args.rows.now c.partition_point.result c.partition_point.ensures.bound
    (IsPartitionPoint-from_clause (is_below c.args.key.now) _ _ c.partition_point.ensures.partitioned (parted c.args.key.now c.args.rows.now c.requires)
    (λ a r q called. search rules))
