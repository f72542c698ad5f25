use Rattle.rc_begin.proofs.LogSteps.{page_step}
use Rattle.rc_begin.proofs.named.add_page.Goals as goal

pub loop-index-preserved : goal.loop-index-preserved
loop-index-preserved c =
    page_step c.loop-index.named.keys c.add_tx.new.named.keys _ c.args.page.now c.loop-index.index _ c.entry-tx.ensures c.in_ok-add_tx.ensures
    c.loop-index.invariant
