-- What is found in the network is the message of the world.
use Rattle.rc_net.specs.Shown.{shown}
use Rattle.rc_world.proofs.MailFacts.{one_there}
use Rattle.rc_world.proofs.mail.message.Goals as goal

pub returns : goal.returns
returns c = λ w mail. one_there c.args.net.now w c.args.number (shown c.in-Some.sent) c.decode.result mail c.in-Some.ensures c.message_laws.ensures.one c.decode.ensures.found c.decode.ensures.none
