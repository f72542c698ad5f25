use Rattle.std.proofs.Common.{◌≡◌, ◌<◌, ◌≤◌, true, false, length, arith}
use Rattle.std.proofs.lemmas.Result.{IfOk-weaker}
use Rattle.rc_protocol.specs.Nodes.{shard_index}
use Rattle.rc_runs.specs.World.{is_shard_of}
use Rattle.rc_plain_world.proofs.ShardStops.{shard_start_at, shard_start_outside}
use Rattle.rc_plain_world.proofs.parties.Parties.restart_shard.Goals as goal

pub returns-then-not-is_shard_of : goal.returns-then-not-is_shard_of
returns-then-not-is_shard_of c =
    let outside : is_shard_of c.self.inside.cluster c.args.dc c.args.shard ≡ false = (cc) in
    shard_start_outside c.self.inside.cluster _ _ _ _ _ c.args.dc c.args.shard _ _ c.self.view_is (λ is. absurd (cc)) c.new.ensures

pub returns-then-place-len : goal.returns-then-place-len
returns-then-place-len c =
    let past : length c.self.inside.shards.items ≤ shard_index c.self.inside.cluster c.args.dc c.args.shard = omega (arith, c.place_of-place.ensures, c.if-place-len.true) in
    shard_start_outside c.self.inside.cluster _ _ _ _ _ c.args.dc c.args.shard _ _ c.self.view_is (λ _. past) c.new-then-place-len.ensures

pub returns : goal.returns
returns c =
    let inside : is_shard_of c.self.inside.cluster c.args.dc c.args.shard ≡ true = (cc) in
    let within : shard_index c.self.inside.cluster c.args.dc c.args.shard < length c.self.inside.shards.items = omega (arith, c.place_of-place.ensures, c.if-place-len.false) in
    IfOk-weaker c.shard_starts.result _ _
    (λ out starts. shard_start_at c.self.inside.cluster c.self.inside.coords.items c.self.inside.shards.items c.shard_starts.new.shards.items _ _ _ c.args.dc c.args.shard out _ c.self.view_is
    inside within (rw c.place_of-place.ensures at starts))
    c.shard_starts.ensures
