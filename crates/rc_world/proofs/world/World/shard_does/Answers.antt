use Rattle.std.proofs.Common.{refl, sym, ap, ◌∙◌}
use Rattle.rc_ids.specs.Cluster.{Layout}
use Rattle.rc_ids.specs.declared.names.NodeId.TheVariants.{Shard as ShardServer}
use Rattle.rc_protocol.specs.Nodes.{shard_index}
use Rattle.rc_runs.specs.World.{is_shard_of}
use Rattle.rc_world.proofs.Noded.{shards_did}
use Rattle.rc_world.proofs.world.World.shard_does.Goals as goal

pub returns-then-place-len-clause-ok : goal.returns-then-place-len-clause-ok
returns-then-place-len-clause-ok g c = λ r z e is has done is_deed who named no_begin told.
    let cluster = is.parties.cluster in
    let there = ap (λ (l : Layout). is_shard_of l c.args.dc c.args.shard) (sym cluster) ∙ sym c.is_shard_of.ensures ∙ c.if-is_shard_of.true in
    let spot = c.place_of-place.ensures.place ∙ ap (λ (l : Layout). shard_index l c.args.dc c.args.shard) cluster in
    shards_did _ r z _ is e named no_begin c.in_ok-event_limit.ensures.ok c.shard_acts.new.shards.items (ShardServer c.args.dc c.args.shard) c.in_ok-out.out c.into_sends.result c.shard_acts.new.lines c.in_ok-out.ensures.count c.into_sends.ensures who
    (c.in_ok-out.ensures.ok r z e c.args.dc c.args.shard (sym cluster) is.parties.layout is.carried.grammar refl there spot is.parties.hosts.of_shards done is_deed has told)

pub returns-in_err-out-clause-grew : goal.returns-in_err-out-clause-grew
returns-in_err-out-clause-grew g c = λ r told. record { coords = told.coords; shards = c.in_err-out.ensures.grew r told.shards }

pub returns-then-place-len-clause-grew : goal.returns-then-place-len-clause-grew
returns-then-place-len-clause-grew g c = λ r told. record { coords = told.coords; shards = c.in_ok-out.ensures.grew r told.shards }
