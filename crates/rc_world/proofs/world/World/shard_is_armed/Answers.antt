use Rattle.std.proofs.Common.{◌≡◌, true, [], refl, ◌∙◌, ap, subst}
use Rattle.rc_ids.specs.Cluster.{Layout}
use Rattle.rc_ids.specs.declared.names.NodeId.TheVariants.{Shard as ShardServer}
use Rattle.rc_ids.specs.declared.names.Party.TheVariants.{Node}
use Rattle.rc_msg.specs.Outboxes.{new_outbox}
use Rattle.rc_protocol.specs.Nodes.{shard_index}
use Rattle.rc_runs.specs.World.{is_shard_of}
use Rattle.rc_runs.specs.declared.event.Event.TheVariants.{CrashAt}
use Rattle.rc_world.proofs.Powered.{up_if_wanted}
use Rattle.rc_world.proofs.Noded.{shards_did}
use Rattle.rc_world.proofs.world.World.shard_is_armed.Goals as goal

pub returns-in-Some-clause-did : goal.returns-in-Some-clause-did
returns-in-Some-clause-did g c = λ r z is fits wanted.
    let known = subst (λ (l : Layout). is_shard_of l c.args.dc c.args.shard ≡ true) is.parties.cluster c.in-Some.ensures.known in
    let spot = c.in-Some.ensures.place ∙ ap (λ (l : Layout). shard_index l c.args.dc c.args.shard) is.parties.cluster in
    shards_did _ r z _ is (CrashAt (ShardServer c.args.dc c.args.shard) c.args.k c.args.pick) wanted refl fits c.shard_arms.new.shards.items (ShardServer c.args.dc c.args.shard) (new_outbox (Node (ShardServer c.args.dc c.args.shard))) [] [] c.shard_arms.ensures.count refl refl
    (c.shard_arms.ensures.arms r z c.args.dc c.args.shard is.parties.layout known spot (up_if_wanted z.world.parties (ShardServer c.args.dc c.args.shard) wanted) is.parties.hosts.of_shards)

pub returns-in-Some-clause-grew : goal.returns-in-Some-clause-grew
returns-in-Some-clause-grew g c = λ r told. record { coords = told.coords; shards = c.shard_arms.ensures.grew r told.shards }
