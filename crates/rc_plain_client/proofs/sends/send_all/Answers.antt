use Rattle.rc_protocol.specs.Messages.{one, coordinator}
use Rattle.rc_plain_client.proofs.SendFacts.{sent-more}
use Rattle.rc_plain_client.proofs.sends.send_all.Goals as goal

pub loop-place-preserved : goal.loop-place-preserved
loop-place-preserved c =
    sent-more c.args.out.now c.loop-place.out c.push.new.self c.loop-place.place (λ d. one (coordinator d) c.args.msg.now)
    c.loop-place.invariant c.in_ok-push.ensures.ok
