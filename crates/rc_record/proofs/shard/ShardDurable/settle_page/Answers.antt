use Rattle.rc_record.proofs.OutcomeFacts.{ended_step}
use Rattle.rc_record.proofs.shard.ShardDurable.settle_page.Goals as goal

pub loop-index-preserved : goal.loop-index-preserved
loop-index-preserved c =
    ended_step c.loop-index.self c.args.page.now c.loop-index.index _ c.settle_new.new.self _ c.entry-tx.ensures c.in_ok-settle_new.ensures
    c.loop-index.invariant
