-- What an event sends passes a limit, or is sent.
use Rattle.rc_runs.specs.Session.{disk_change}
use Rattle.rc_world.proofs.Stepping.{refused, sent}
use Rattle.rc_world.proofs.world.World.send.Goals as goal

pub returns-in-Some-clause-err : goal.returns-in-Some-clause-err
returns-in-Some-clause-err g c = λ r z own carried has acted. refused _ r z c.args.event.now _ c.args.sending.from c.args.sending.sends own carried acted c.in-Some.which c.in-Some.ensures.limit

pub returns-clause-ok : goal.returns-clause-ok
returns-clause-ok g c = λ r z own carried has acted.
    sent _ r z c.args.event.now _ c.args.sending.from c.args.sending.sends own carried acted c.settle.new.net c.post.new.net c.settle.ensures.mail c.post.ensures.mail
    (c.worlds_speak.ensures.steps z.world carried.grammar c.args.event.now has (disk_change z c.args.event.now).course)
    c.saturating_add-self.result c.deliveries_after-self.result c.in_default.ensures.limit c.saturating_add-self.ensures c.deliveries_after-self.ensures
