use Rattle.std.proofs.Common.{ℕ, ◌≤◌, refl}
use Rattle.rc_ids.specs.declared.names.NodeId.TheVariants.{Shard}
use Rattle.rc_plain_world.specs.Starts.{shard_sites_of, Begins}
use Rattle.rc_plain_world.proofs.NewSessions.{flat_more, one_more}
use Rattle.rc_plain_world.proofs.starts.new_shards.Goals as goal

pub loop-count-preserved : goal.loop-count-preserved
loop-count-preserved c = record {
  sites = rw c.in_ok-push_shards.ensures.sites (flat_more (shard_sites_of c.args.cluster.now c.args.cluster.now.shards) c.loop-count.count c.loop-count.hosts.items _ c.loop-count.invariant.sites refl);
  begin = λ d s low high. one_more (λ (e : ℕ). (s : ℕ) → 1 ≤ s → s ≤ c.args.cluster.now.shards → Begins c.args.cluster.now (Shard e s)) c.loop-count.count
      (λ e l h s a b. c.loop-count.invariant.begin e s l h a b) c.in_ok-push_shards.ensures.begin d low high s;
}
