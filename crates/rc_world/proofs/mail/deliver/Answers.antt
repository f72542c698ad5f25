-- What is delivered is pending no longer.
use Rattle.rc_world.proofs.MailFacts.{delivered}
use Rattle.rc_world.proofs.mail.deliver.Goals as goal

pub returns-clause-mail : goal.returns-clause-mail
returns-clause-mail c = λ w mail. delivered c.args.net.now c.deliver.new.self w c.args.number mail c.in-Ok.ensures.sent c.in-Ok.ensures.pending
