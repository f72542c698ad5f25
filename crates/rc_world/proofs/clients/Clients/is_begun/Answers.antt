-- What was begun in the world.
use Rattle.std.proofs.Common.{sym}
use Rattle.rc_world.proofs.Obeying.{begun_is}
use Rattle.rc_world.proofs.clients.Clients.is_begun.Goals as goal

pub returns-else-contains : goal.returns-else-contains
returns-else-contains c = λ p is.
    begun_is p c.args.self.now c.self.inside.named.keys c.self.inside.clients.entries c.args.tx c.contains_key.result (sym c.self.view_is) is c.if-contains.ensures c.contains_key.ensures
