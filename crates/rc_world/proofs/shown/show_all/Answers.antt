use Rattle.std.proofs.Common.{arith}
use Rattle.rc_world.specs.Shown.{shown_at}
use Rattle.rc_world.proofs.ShownFacts.{shown_more, shown_all}
use Rattle.rc_world.proofs.shown.show_all.Goals as goal

pub loop-shard-preserved : goal.loop-shard-preserved
loop-shard-preserved g c = λ r nodes devices are.
    shown_more (shown_at c.args.cluster.now nodes c.args.dc) c.loop-shard.shard c.args.lines.now c.loop-shard.lines c.show_one.new.lines
    c.loop-shard.auto.shard (c.loop-shard.invariant r nodes devices are) (c.in_ok-show_one.ensures r nodes devices are)

pub returns : goal.returns
returns g c = λ r nodes devices are.
    shown_all (shown_at c.args.cluster.now nodes c.args.dc) c.loop-shard.shard c.args.cluster.now.shards c.args.lines.now c.loop-shard.lines
    (let high = c.loop-shard.auto.shard-end (omega arith) in omega (arith, high, c.shards-last.ensures.shards)) (c.loop-shard.invariant r nodes devices are)
