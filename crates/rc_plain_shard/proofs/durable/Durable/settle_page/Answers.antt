use Rattle.rc_plain_shard.proofs.Replays.{settled_step}
use Rattle.rc_plain_shard.proofs.durable.Durable.settle_page.Goals as goal

pub loop-index-preserved : goal.loop-index-preserved
loop-index-preserved c =
    settled_step c.loop-index.self c.args.page.now c.loop-index.index _ c.settle_new.new.self _ c.entry-tx.ensures c.in_ok-settle_new.ensures
    c.loop-index.invariant
