use Rattle.std.proofs.Common.{rules}
use Rattle.std.proofs.lemmas.List.Sorted.{IsPartitionPoint-from_clause}
use Rattle.rc_ballots.proofs.BallotFacts.{is_below, parted, counted_below}
use Rattle.rc_ballots.proofs.rows.count_below.Goals as goal

pub returns-clause-count : goal.returns-clause-count
returns-clause-count c =
    counted_below c.args.ballot c.args.rows.now c.partition_point.result c.partition_point.ensures.bound
    (IsPartitionPoint-from_clause (is_below c.args.ballot) _ _ c.partition_point.ensures.partitioned (parted c.args.ballot c.args.rows.now c.requires)
    (λ a r q called. search rules))
