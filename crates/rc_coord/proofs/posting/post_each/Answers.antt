use Rattle.std.proofs.Common.{◌+◌, sym, subst}
use Rattle.rc_protocol.specs.Messages.{coordinator, one}
use Rattle.rc_msg.specs.Posts.{Grows}
use Rattle.rc_msg.proofs.PostFacts.{Grows-posted}
use Rattle.rc_coord.proofs.PostFacts.{next}
use Rattle.rc_coord.proofs.posting.post_each.Goals as goal

pub loop-number-preserved : goal.loop-number-preserved
loop-number-preserved c = record {
  sends = next (λ d. one (coordinator d) c.args.msg.now) c.args.out.now c.loop-number.out c.push.new.self c.loop-number.number c.loop-number.invariant.sends c.in_ok-push.ensures.ok;
  grows = subst (Grows c.args.out.now) (sym c.in_ok-push.ensures.ok) (Grows-posted c.args.out.now c.loop-number.out (coordinator (c.loop-number.number + 1)) c.args.msg.now c.loop-number.invariant.grows);
}
