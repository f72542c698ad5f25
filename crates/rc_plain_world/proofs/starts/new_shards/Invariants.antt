use Rattle.std.proofs.Common.{◌≡◌, ◌≤◌, ℕ}
use Rattle.rc_ids.specs.declared.names.NodeId.TheVariants.{Shard}
use Rattle.rc_plain_world.specs.Starts.{shard_sites, Begins}
use Rattle.rc_plain_world.proofs.starts.new_shards.Given as goal

abbrev pub invariant-loop-count : goal.invariant-loop-count
invariant-loop-count l = record {
  sites : l.hosts.items ≡ shard_sites l.cluster l.count;
  begin : (d s : ℕ) → 1 ≤ d → d ≤ l.count → 1 ≤ s → s ≤ l.cluster.shards → Begins l.cluster (Shard d s);
}
