use Rattle.rc_plain_coord.proofs.CatchFacts.{finishes_step}
use Rattle.rc_plain_coord.proofs.sending.finishes_all.Goals as goal

pub loop-index-preserved : goal.loop-index-preserved
loop-index-preserved c =
    finishes_step c.args.cluster.now c.args.dc c.args.page.now c.loop-index.index (c.entry-tx.result.0, c.entry-tx.result.1.now) c.loop-index.out
    c.finishes.new.out _ c.entry-tx.ensures c.in_ok-finishes.ensures c.loop-index.invariant
