use Rattle.rc_plain_client.proofs.SendFacts.{again-more}
use Rattle.rc_plain_client.proofs.sends.ask_rests.Goals as goal

pub loop-key-preserved : goal.loop-key-preserved
loop-key-preserved c =
    again-more c.args.cluster.now c.args.tx c.args.slots.now c.args.out.now c.loop-key.out c.ask_key.new.out c.loop-key.yielded c.in-Some.key
    c.loop-key.invariant c.in_ok-ask_key.ensures
