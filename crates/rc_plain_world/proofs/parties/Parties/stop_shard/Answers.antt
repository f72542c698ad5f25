use Rattle.std.proofs.Common.{◌≡◌, ◌<◌, true, length}
use Rattle.std.proofs.lemmas.Result.{on_ok_weaker}
use Rattle.rc_runs.specs.World.{is_shard_of}
use Rattle.rc_protocol.specs.Nodes.{shard_index}
use Rattle.rc_plain_world.proofs.ShardStops.{shard_inside, shard_there, shard_stop_at}
use Rattle.rc_plain_world.proofs.parties.Parties.stop_shard.Goals as goal

pub shard_stops-requires : goal.shard_stops-requires
shard_stops-requires c =
    let within : shard_index c.self.inside.cluster c.args.dc c.args.shard < length c.self.inside.shards.items = shard_inside _ _ _ _ _ _ c.args.dc c.args.shard c.self.view_is c.requires in
    rw c.place_of-place.ensures within

pub returns : goal.returns
returns c =
    let within : shard_index c.self.inside.cluster c.args.dc c.args.shard < length c.self.inside.shards.items = shard_inside _ _ _ _ _ _ c.args.dc c.args.shard c.self.view_is c.requires in
    let is_there : is_shard_of c.self.inside.cluster c.args.dc c.args.shard ≡ true = shard_there _ _ _ _ _ _ c.args.dc c.args.shard c.self.view_is c.requires in
    on_ok_weaker c.shard_stops.result
    (λ prints. shard_stop_at c.self.inside.cluster c.self.inside.coords.items c.self.inside.shards.items c.shard_stops.new.shards.items _ _ _ c.args.dc c.args.shard c.args.lines.now c.shard_stops.new.lines c.self.view_is is_there within
    (rw c.place_of-place.ensures at c.shard_stops.ensures.stopped) prints)
    c.shard_stops.ensures.prints
