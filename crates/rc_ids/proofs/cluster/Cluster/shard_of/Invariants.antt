use Rattle.std.proofs.Common.{◌≡◌, ◌+◌, ◌≤◌, drop}
use Rattle.rc_ids.specs.Cluster.{shard_from}
use Rattle.rc_ids.proofs.cluster.Cluster.shard_of.Given as goal

abbrev pub invariant-loop-split : goal.invariant-loop-split
invariant-loop-split l = record {
  counted : l.shard + shard_from (drop l.split-index l.split-items) l.key ≡ 1 + shard_from l.split-items l.key;
  some : 1 ≤ l.shard;
  few : l.shard ≤ l.split-index + 1;
}
