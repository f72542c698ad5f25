use Rattle.rc_protocol.specs.Coordinator.{prepare_to}
use Rattle.rc_msg.proofs.PostFacts.{Grows-trans}
use Rattle.rc_coord_tables.specs.Gathers.{gather_of}
use Rattle.rc_coord.proofs.PostFacts.{next}
use Rattle.rc_coord.proofs.asked.post_each_prepare.Goals as goal

pub loop-number-preserved : goal.loop-number-preserved
loop-number-preserved c = record {
  sends =
      next (prepare_to c.args.cluster.now c.args.dc c.args.tx (gather_of c.args.asked.now)) c.args.out.now c.loop-number.out c.post_prepare.new.out c.loop-number.number
      c.loop-number.invariant.sends c.in_ok-post_prepare.ensures.ok;
  grows = Grows-trans c.args.out.now c.loop-number.out c.post_prepare.new.out c.loop-number.invariant.grows c.in_ok-post_prepare.ensures.grows;
}
