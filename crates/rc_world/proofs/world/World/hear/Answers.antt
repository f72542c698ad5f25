use Rattle.std.proofs.Common.{refl, sym, ◌∙◌}
use Rattle.rc_protocol.specs.Acts.{Hears}
use Rattle.rc_world.proofs.Weighing.{are_so, are_tested}
use Rattle.rc_world.proofs.Told.{client_did}
use Rattle.rc_world.proofs.world.World.hear.Goals as goal

pub returns-clause-ok : goal.returns-clause-ok
returns-clause-ok g c = λ r z e is done is_deed who named no_begin.
    client_did _ r z _ _ is refl refl refl refl e c.args.tx (Hears c.args.msg.now) c.new-out.result c.hear.new.out c.into_sends.result c.args.lines.now c.hear.new.lines c.into_sends.ensures done is_deed who named no_begin
    c.in_ok-event_limit.ensures.ok refl c.new-out.ensures c.requires.lines _ refl (c.in-Ok.ensures.done z.world.parties (is.parties.layout ∙ sym is.parties.cluster) is.parties.roster)

pub hear-requires : goal.hear-requires
hear-requires g c = are_so c.args.self.now.cluster c.args.self.now.clients.cores c.args.self.now.clients_are_of

pub invariant_of-self-clause-clients_are_of : goal.invariant_of-self-clause-clients_are_of
invariant_of-self-clause-clients_are_of g c = are_tested c.args.self.now.cluster c.hear.new.self.cores c.hear.ensures.of
