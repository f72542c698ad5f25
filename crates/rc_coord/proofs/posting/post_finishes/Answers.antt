use Rattle.rc_protocol.specs.Coordinator.{finish_to}
use Rattle.rc_msg.proofs.PostFacts.{Grows-trans}
use Rattle.rc_coord.proofs.PostFacts.{next}
use Rattle.rc_coord.proofs.posting.post_finishes.Goals as goal

pub loop-number-preserved : goal.loop-number-preserved
loop-number-preserved c = record {
  sends =
      next (finish_to c.args.cluster.now c.args.dc c.args.tx c.args.decision.now) c.args.out.now c.loop-number.out c.post_finish.new.out c.loop-number.number
      c.loop-number.invariant.sends c.in_ok-post_finish.ensures.ok;
  grows = Grows-trans c.args.out.now c.loop-number.out c.post_finish.new.out c.loop-number.invariant.grows c.in_ok-post_finish.ensures.grows;
}
