use Rattle.std.proofs.Common.{◌≡◌, ◌<◌, ◌≤◌, true, false, length, sym, ◌∙◌, arith}
use Rattle.rc_protocol.specs.Nodes.{shard_index}
use Rattle.rc_runs.specs.World.{is_shard_of}
use Rattle.rc_plain_world.specs.Hosts.{node_cause}
use Rattle.rc_plain_world.proofs.Deeds.{if_ok2}
use Rattle.rc_plain_world.proofs.ShardDeeds.{shard_deed_at, shard_outside}
use Rattle.rc_plain_world.proofs.parties.Parties.shard_acts.Goals as goal

pub returns-then-not-is_shard_of : goal.returns-then-not-is_shard_of
returns-then-not-is_shard_of c =
    let outside : is_shard_of c.self.inside.cluster c.args.dc c.args.shard ≡ false = (cc) in
    shard_outside c.self.inside.cluster _ _ _ _ _ c.args.dc c.args.shard (node_cause c.args.sent.now c.args.event.now) _ c.args.lines.now c.self.view_is (λ is. absurd (cc)) c.new.ensures

pub returns-then-place-len : goal.returns-then-place-len
returns-then-place-len c =
    let past : length c.self.inside.shards.items ≤ shard_index c.self.inside.cluster c.args.dc c.args.shard = omega (arith, c.place_of-place.ensures, c.if-place-len.true) in
    shard_outside c.self.inside.cluster _ _ _ _ _ c.args.dc c.args.shard (node_cause c.args.sent.now c.args.event.now) _ c.args.lines.now c.self.view_is (λ _. past) c.new-then-place-len.ensures

pub returns : goal.returns
returns c =
    let inside : is_shard_of c.self.inside.cluster c.args.dc c.args.shard ≡ true = (cc) in
    let within : shard_index c.self.inside.cluster c.args.dc c.args.shard < length c.self.inside.shards.items = omega (arith, c.place_of-place.ensures, c.if-place-len.false) in
    if_ok2 c.shard_acts.result _ _ _
    (λ out idles dids. shard_deed_at c.self.inside.cluster c.self.inside.coords.items c.self.inside.shards.items c.shard_acts.new.shards.items c.self.inside.clients.entries c.self.inside.committed.items c.args.self.now c.args.dc c.args.shard
    (node_cause c.args.sent.now c.args.event.now) out c.args.lines.now c.shard_acts.new.lines c.self.view_is inside within (rw c.place_of-place.ensures at idles) (rw c.place_of-place.ensures at dids))
    c.shard_acts.ensures.idle c.shard_acts.ensures.did
