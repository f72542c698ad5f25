use Rattle.rc_plain_world.specs.Hosts.{shard_nodes}
use Rattle.rc_plain_world.specs.Lines.{shown_at}
use Rattle.rc_plain_world.proofs.Shown.{shown_more}
use Rattle.rc_plain_world.proofs.parties.show_all.Goals as goal

pub loop-shard-preserved : goal.loop-shard-preserved
loop-shard-preserved c =
    shown_more (shown_at c.args.cluster.now (shard_nodes c.args.shards.now) c.args.dc) c.loop-shard.shard c.args.lines.now c.loop-shard.lines c.show_one.new.lines
    c.loop-shard.auto.shard c.loop-shard.invariant c.in_ok-show_one.ensures
