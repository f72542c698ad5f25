use Rattle.rc_plain_shard.proofs.Acted.{forgotten_step}
use Rattle.rc_plain_shard.proofs.volatile.Volatile.forget_all.Goals as goal

pub loop-index-preserved : goal.loop-index-preserved
loop-index-preserved c =
    forgotten_step c.loop-index.self c.forget.new.self c.args.page.now c.loop-index.index c.entry-tx.result.0 c.entry-tx.result.1.now
    _ c.entry-tx.ensures c.forget.ensures c.loop-index.invariant
