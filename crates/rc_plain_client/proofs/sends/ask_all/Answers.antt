use Rattle.rc_plain_client.proofs.SendFacts.{asked-more}
use Rattle.rc_plain_client.proofs.sends.ask_all.Goals as goal

pub loop-key-preserved : goal.loop-key-preserved
loop-key-preserved c =
    asked-more c.args.cluster.now c.args.tx c.args.out.now c.loop-key.out c.ask.new.out c.loop-key.yielded c.in-Some.key
    c.loop-key.invariant c.in_ok-ask.ensures
