use Rattle.rc_msg.proofs.PostFacts.{Grows-trans}
use Rattle.rc_client.proofs.SendFacts.{asked-more}
use Rattle.rc_client.proofs.posting.post_asks.Goals as goal

pub loop-key-preserved : goal.loop-key-preserved
loop-key-preserved c = record {
  sends = asked-more c.args.cluster.now c.args.tx c.args.out.now c.loop-key.out c.post_ask.new.out c.loop-key.yielded c.in-Some.key
      c.loop-key.invariant.sends (rw c.new.ensures at c.in_ok-post_ask.ensures.ok);
  grows = Grows-trans c.args.out.now c.loop-key.out c.post_ask.new.out c.loop-key.invariant.grows c.in_ok-post_ask.ensures.grows;
}
