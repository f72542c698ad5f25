-- A message for a client, as the deed of the world.
use Rattle.std.proofs.Common.{sym}
use Rattle.rc_protocol.specs.Acts.{Hears}
use Rattle.rc_world.proofs.Obeying.{heard_did, heard_refused}
use Rattle.rc_world.proofs.clients.Clients.hear.Goals as goal

pub returns-clause-done : goal.returns-clause-done
returns-clause-done c = λ p layout is.
    heard_did c.args.cluster.now p c.args.self.now c.self.inside.named.keys c.self.inside.clients.entries c.hear_at.new.clients.entries c.args.out.now c.hear_at.new.out c.args.lines.now c.hear_at.new.lines
    c.args.tx (Hears c.args.msg.now) c.hear_at.result (sym c.self.view_is) layout is c.hear_at.ensures.absent c.hear_at.ensures.served

pub returns-clause-refused : goal.returns-clause-refused
returns-clause-refused c = λ p layout is.
    heard_refused c.args.cluster.now p c.args.self.now c.self.inside.named.keys c.self.inside.clients.entries c.args.tx (Hears c.args.msg.now) c.hear_at.result
    (sym c.self.view_is) layout is (λ at. (c.hear_at.ensures.absent at).0) c.hear_at.ensures.says
