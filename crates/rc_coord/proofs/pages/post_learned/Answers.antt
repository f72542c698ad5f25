use Rattle.rc_msg.proofs.PostFacts.{Grows-trans}
use Rattle.rc_coord.proofs.PostFacts.{finishes-next}
use Rattle.rc_coord.proofs.pages.post_learned.Goals as goal

pub loop-index-preserved : goal.loop-index-preserved
loop-index-preserved c = record {
  sends =
      finishes-next c.args.cluster.now c.args.dc c.args.page.now c.loop-index.index (c.entry-tx.result.0, c.entry-tx.result.1.now) c.loop-index.out c.post_finishes.new.out _
      c.entry-tx.ensures c.in_ok-post_finishes.ensures.ok c.loop-index.invariant.sends;
  grows = Grows-trans c.args.out.now c.loop-index.out c.post_finishes.new.out c.loop-index.invariant.grows c.in_ok-post_finishes.ensures.grows;
}
