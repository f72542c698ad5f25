-- A new client.
use Rattle.std.proofs.Common.{subst, sym}
use Rattle.rc_world.specs.Clients.{Roster, AreOf}
use Rattle.rc_world.proofs.clients.Clients.begin.Goals as goal

pub returns-clause-of : goal.returns-clause-of
returns-clause-of c = λ cluster of. c.begin_in.ensures.of cluster (subst (λ (r : Roster). AreOf cluster r.cores) (sym c.self.view_is) of)
