use Rattle.std.proofs.Common.{◌+◌, sym, subst}
use Rattle.rc_msg.specs.Posts.{Grows}
use Rattle.rc_msg.proofs.PostFacts.{Grows-posted}
use Rattle.rc_protocol.specs.Messages.{one, coordinator}
use Rattle.rc_client.proofs.SendFacts.{sent-more}
use Rattle.rc_client.proofs.posting.post_to_all.Goals as goal

pub loop-place-preserved : goal.loop-place-preserved
loop-place-preserved c = record {
  sends = sent-more c.args.out.now c.loop-place.out c.push.new.self c.loop-place.place (λ d. one (coordinator d) c.args.msg.now)
      c.loop-place.invariant.sends c.in_ok-push.ensures.ok;
  grows = subst (Grows c.args.out.now) (sym c.in_ok-push.ensures.ok)
      (Grows-posted c.args.out.now c.loop-place.out (coordinator (c.loop-place.place + 1)) c.args.msg.now c.loop-place.invariant.grows);
}
