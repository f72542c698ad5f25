use Rattle.std.proofs.Common.{◌≡◌, ◌≤◌, ◌++◌, ℕ}
use Rattle.rc_ids.specs.declared.names.NodeId.TheVariants.{Shard}
use Rattle.rc_plain_world.specs.Starts.{shard_sites_of, Begins}
use Rattle.rc_plain_world.proofs.starts.push_shards.Given as goal

abbrev pub invariant-loop-count : goal.invariant-loop-count
invariant-loop-count l = record {
  sites : l.hosts.items ≡ l.initial.hosts.items ++ shard_sites_of l.cluster l.count l.dc;
  begin : (s : ℕ) → 1 ≤ s → s ≤ l.count → Begins l.cluster (Shard l.dc s);
}
