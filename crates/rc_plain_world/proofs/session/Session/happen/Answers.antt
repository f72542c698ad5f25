use Rattle.std.proofs.Common.{subst}
use Rattle.std.proofs.lemmas.Result.{IfErr-weaker}
use Rattle.rc_runs.specs.Session.{Session, happens}
use Rattle.rc_plain_world.specs.Sessions.{Halts}
use Rattle.rc_plain_world.proofs.session.Session.happen.Goals as goal

pub returns-clause-refused : goal.returns-clause-refused
returns-clause-refused c =
    IfErr-weaker c.happen_in.result _ _ (λ e halts. subst (λ (z : Session). Halts e (happens z c.args.event.now)) c.self.view_is halts) c.happen_in.ensures.refused
