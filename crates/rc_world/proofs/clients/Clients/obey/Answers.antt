-- A command of a client, as the deed of the world.
use Rattle.std.proofs.Common.{sym}
use Rattle.rc_world.proofs.Obeying.{gone_named, obeyed_did, obeyed_right, obeyed_refused}
use Rattle.rc_world.proofs.clients.Clients.obey.Goals as goal

pub returns-then-contains-clause-refused : goal.returns-then-contains-clause-refused
returns-then-contains-clause-refused c = λ w layout is.
    gone_named w c.args.self.now c.self.inside.named.keys c.self.inside.clients.entries c.args.event.now c.in-Some.tx (sym c.self.view_is) is c.in-Some.ensures c.if-contains.ensures

pub returns-clause-done : goal.returns-clause-done
returns-clause-done c = λ p layout is.
    obeyed_did c.args.cluster.now p c.args.self.now c.self.inside.named.keys c.self.inside.clients.entries c.obey_at.new.clients.entries
    c.args.out.now c.obey_at.new.out c.args.lines.now c.obey_at.new.lines c.args.event.now c.in-Some.tx c.obey_at.result
    (sym c.self.view_is) layout is c.in-Some.ensures c.obey_at.ensures.absent c.obey_at.ensures.served

pub returns-clause-right : goal.returns-clause-right
returns-clause-right c = λ w is.
    obeyed_right w c.args.self.now c.self.inside.named.keys c.self.inside.clients.entries c.args.event.now c.in-Some.tx c.obey_at.result
    (sym c.self.view_is) is c.in-Some.ensures c.if-contains.ensures c.obey_at.ensures.absent c.obey_at.ensures.right

pub returns-clause-refused : goal.returns-clause-refused
returns-clause-refused c = λ w layout is.
    obeyed_refused c.args.cluster.now w c.args.self.now c.self.inside.named.keys c.self.inside.clients.entries c.args.event.now c.in-Some.tx c.obey_at.result
    (sym c.self.view_is) layout is c.in-Some.ensures c.if-contains.ensures c.obey_at.ensures.absent c.obey_at.ensures.says
