use Rattle.rc_plain_coord.proofs.CatchFacts.{forgotten_step}
use Rattle.rc_plain_coord.proofs.volatile.Volatile.forget_all.Goals as goal

pub loop-index-preserved : goal.loop-index-preserved
loop-index-preserved c =
    forgotten_step c.loop-index.self c.args.page.now c.loop-index.index (c.entry-tx.result.0, c.entry-tx.result.1.now) c.forget.new.self _
    c.entry-tx.ensures c.forget.ensures c.loop-index.invariant
