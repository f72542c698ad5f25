use Rattle.rc_msg.proofs.PostFacts.{Grows-trans}
use Rattle.rc_client.proofs.SendFacts.{again-more}
use Rattle.rc_client.proofs.posting.post_asks_again.Goals as goal

pub loop-key-preserved : goal.loop-key-preserved
loop-key-preserved c = record {
  sends = again-more c.args.cluster.now c.args.tx c.args.slots.now c.args.out.now c.loop-key.out c.post_again.new.out c.loop-key.yielded c.in-Some.key
      c.loop-key.invariant.sends c.in_ok-post_again.ensures.ok;
  grows = Grows-trans c.args.out.now c.loop-key.out c.post_again.new.out c.loop-key.invariant.grows c.in_ok-post_again.ensures.grows;
}
