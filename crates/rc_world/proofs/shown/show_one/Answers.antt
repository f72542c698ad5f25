use Rattle.std.proofs.Common.{◌≡◌, true, rules}
use Rattle.std.proofs.lemmas.Result.{on_ok_weaker}
use Rattle.rc_protocol.specs.Nodes.{shard_index}
use Rattle.rc_runs.specs.World.{is_shard_of}
use Rattle.rc_world.proofs.ShownFacts.{shows_one, shows_missing, stands_at, read_at, beyond}
use Rattle.rc_world.proofs.shown.show_one.Goals as goal

pub returns-then-place-shards : goal.returns-then-place-shards
returns-then-place-shards g c = λ r nodes devices are.
    let known : is_shard_of c.args.cluster.now c.args.dc c.args.shard ≡ true = search rules in
    let spot = shard_index c.args.cluster.now c.args.dc c.args.shard in
    shows_missing c.args.cluster.now nodes c.args.dc c.args.shard c.args.lines.now known
    (beyond _ c.args.shards.now nodes devices are c.place_of-place.result spot c.place_of-place.ensures.place c.if-place-shards.true)

pub returns : goal.returns
returns g c = λ r nodes devices are.
    let known : is_shard_of c.args.cluster.now c.args.dc c.args.shard ≡ true = search rules in
    let spot = shard_index c.args.cluster.now c.args.dc c.args.shard in
    let host = c.index-shards-place.result in
    let at = read_at c.args.shards.now c.place_of-place.result spot host c.place_of-place.ensures.place c.if-place-shards.false c.index-shards-place.is in
    let s = stands_at _ c.args.shards.now nodes devices are spot host at in
    on_ok_weaker c.show_host.result
    (shows_one c.args.cluster.now nodes c.args.dc c.args.shard c.args.lines.now s.node c.show_host.new.lines known s.at)
    (c.show_host.ensures r spot s.node s.device s.is)
