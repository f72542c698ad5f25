use Rattle.rc_plain_world.specs.Acted.{client_cause}
use Rattle.rc_plain_world.proofs.Deeds.{if_ok2}
use Rattle.rc_plain_world.proofs.ClientDeeds.{client_deed_at, client_refused_at, if_err2}
use Rattle.rc_plain_world.proofs.parties.Parties.client_acts.Goals as goal

pub returns-clause-done : goal.returns-clause-done
returns-clause-done c =
    if_ok2 c.client_acts.result _ _ _
    (λ out outside done. client_deed_at c.self.inside.cluster c.self.inside.coords.items c.self.inside.shards.items c.self.inside.clients.entries c.client_acts.new.clients.entries c.self.inside.committed.items c.args.self.now c.args.tx
    (client_cause c.args.sent.now c.args.event.now) out c.args.lines.now c.client_acts.new.lines c.self.view_is c.requires outside done)
    c.client_acts.ensures.outside c.client_acts.ensures.done

pub returns-clause-refused : goal.returns-clause-refused
returns-clause-refused c =
    if_err2 c.client_acts.result _ _ _
    (λ e wears outside. client_refused_at c.self.inside.cluster c.self.inside.coords.items c.self.inside.shards.items c.self.inside.clients.entries c.self.inside.committed.items c.args.self.now c.args.tx
    (client_cause c.args.sent.now c.args.event.now) e c.self.view_is c.requires wears outside)
    c.client_acts.ensures.worn c.client_acts.ensures.outside_refused
