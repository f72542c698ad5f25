use Rattle.std.proofs.Common.{◌<◌, length}
use Rattle.rc_protocol.specs.Nodes.{shard_index}
use Rattle.rc_plain_world.proofs.ShardStops.{shard_there, shard_inside, shard_up_at, shard_arm_at}
use Rattle.rc_plain_world.proofs.parties.Parties.arm_shard.Goals as goal

pub shard_arms-requires-clause-inside : goal.shard_arms-requires-clause-inside
shard_arms-requires-clause-inside c =
    let within : shard_index c.self.inside.cluster c.args.dc c.args.shard < length c.self.inside.shards.items = shard_inside _ _ _ _ _ _ c.args.dc c.args.shard c.self.view_is c.requires in
    rw c.place_of-place.ensures within

pub shard_arms-requires-clause-up : goal.shard_arms-requires-clause-up
shard_arms-requires-clause-up c = rw c.place_of-place.ensures (λ h at. shard_up_at _ _ _ _ _ _ c.args.dc c.args.shard h c.self.view_is c.requires at)

pub returns : goal.returns
returns c =
    let within : shard_index c.self.inside.cluster c.args.dc c.args.shard < length c.self.inside.shards.items = shard_inside _ _ _ _ _ _ c.args.dc c.args.shard c.self.view_is c.requires in
    shard_arm_at c.self.inside.cluster c.self.inside.coords.items c.self.inside.shards.items c.shard_arms.new.shards.items _ _ _ c.args.dc c.args.shard c.args.call c.args.pick _ c.self.view_is (shard_there _ _ _ _ _ _ c.args.dc c.args.shard c.self.view_is c.requires) within
    (rw c.place_of-place.ensures at c.shard_arms.ensures)
