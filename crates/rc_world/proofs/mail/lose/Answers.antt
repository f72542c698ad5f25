-- What is lost is pending no longer.
use Rattle.rc_world.proofs.MailFacts.{lost}
use Rattle.rc_world.proofs.mail.lose.Goals as goal

pub returns-clause-mail : goal.returns-clause-mail
returns-clause-mail c = λ w mail. lost c.args.net.now c.lose.new.self w c.args.number mail c.in-Ok.ensures.sent c.in-Ok.ensures.pending
