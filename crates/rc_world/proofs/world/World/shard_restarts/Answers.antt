use Rattle.std.proofs.Common.{◌≡◌, true, [], ◌∷◌, refl, sym, ◌∙◌, ap, subst}
use Rattle.rc_ids.specs.Cluster.{Layout}
use Rattle.rc_ids.specs.declared.names.NodeId.TheVariants.{Shard as ShardServer}
use Rattle.rc_report.specs.declared.line.Line.TheVariants.{Up}
use Rattle.rc_protocol.specs.Nodes.{shard_index}
use Rattle.rc_runs.specs.World.{is_shard_of}
use Rattle.rc_runs.specs.declared.event.Event.TheVariants.{Restart}
use Rattle.rc_world.proofs.Powered.{not_up_named}
use Rattle.rc_world.proofs.Noded.{shards_did}
use Rattle.rc_world.proofs.world.World.shard_restarts.Goals as goal

pub returns-in_ok-shard_starts-in-Some-clause-ok : goal.returns-in_ok-shard_starts-in-Some-clause-ok
returns-in_ok-shard_starts-in-Some-clause-ok g c = λ r z is fits down told.
    let known = subst (λ (l : Layout). is_shard_of l c.args.dc c.args.shard ≡ true) is.parties.cluster c.in-Some.ensures.known in
    let spot = c.in-Some.ensures.place ∙ ap (λ (l : Layout). shard_index l c.args.dc c.args.shard) is.parties.cluster in
    shards_did _ r z _ is (Restart (ShardServer c.args.dc c.args.shard)) (not_up_named z.world (ShardServer c.args.dc c.args.shard) down) refl fits c.shard_starts.new.shards.items (ShardServer c.args.dc c.args.shard) c.shard_starts.new.out c.into_sends.result (Up (ShardServer c.args.dc c.args.shard) ∷ []) c.in_ok-shard_starts-in-Some.ensures.count c.into_sends.ensures refl
    (c.in_ok-shard_starts-in-Some.ensures.ok r z c.args.dc c.args.shard refl (sym is.parties.cluster) is.parties.layout known spot down is.parties.hosts.of_shards told.shards)

pub returns-in_ok-shard_starts-in-Some-clause-grew : goal.returns-in_ok-shard_starts-in-Some-clause-grew
returns-in_ok-shard_starts-in-Some-clause-grew g c = λ r told. record { coords = told.coords; shards = c.in_ok-shard_starts-in-Some.ensures.grew r told.shards }

pub returns-in_err-shard_starts-in-Some-clause-grew : goal.returns-in_err-shard_starts-in-Some-clause-grew
returns-in_err-shard_starts-in-Some-clause-grew g c = λ r told. record { coords = told.coords; shards = c.in_err-shard_starts-in-Some.ensures.grew r told.shards }
