use Rattle.std.proofs.Common.{rules}
use Rattle.std.proofs.lemmas.List.Sorted.{IsPartitionPoint-from_clause}
use Rattle.rc_net.proofs.ParcelFacts.{reaches, parted}
use Rattle.rc_net.proofs.parcel.count_up_to.Goals as goal

pub returns : goal.returns
returns c = record {
  few = c.partition_point.ensures.bound;
  point =
      IsPartitionPoint-from_clause (reaches c.args.n) _ _ c.partition_point.ensures.partitioned (parted c.args.n 1 c.args.parcels.now c.requires)
      (λ a r q called. search rules);
}
