-- What is posted stands behind what was sent.
use Rattle.rc_world.proofs.PostFacts.{posted_mail}
use Rattle.rc_world.proofs.mail.post.Goals as goal

pub returns-clause-mail : goal.returns-clause-mail
returns-clause-mail c = λ w ms mail are spelled.
    posted_mail c.args.net.now c.send_all.new.self w c.args.from ms c.args.sends c.in-Ok.ensures.sent c.in-Ok.ensures.pending mail are spelled
