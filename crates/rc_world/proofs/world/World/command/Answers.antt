use Rattle.std.proofs.Common.{ℕ, Option, refl, sym, ap, ◌∙◌}
use Rattle.std.specs.Prelude.{is_some}
use Rattle.rc_protocol.specs.Acts.{ClientCause}
use Rattle.rc_world.proofs.Weighing.{are_so, are_tested}
use Rattle.rc_world.proofs.Told.{is_told, client_did}
use Rattle.rc_world.proofs.world.World.command.Goals as goal

pub returns-clause-ok : goal.returns-clause-ok
returns-clause-ok g c = λ r z cause is at.
    let told = is_told z c.args.event.now c.args.tx cause at in
    let named = c.in-Ok.ensures.right z.world is.parties.roster (ap (λ (o : Option (ℕ × ClientCause)). is_some o) at) in
    client_did _ r z _ _ is refl refl refl refl c.args.event.now c.args.tx cause c.new-out.result c.obey.new.out c.into_sends.result c.args.lines.now c.obey.new.lines c.into_sends.ensures told.done told.deed_is told.actor_is named told.no_begin
    c.in_ok-event_limit.ensures.ok refl c.new-out.ensures c.requires.lines _ told.told_is (c.in-Ok.ensures.done z.world.parties (is.parties.layout ∙ sym is.parties.cluster) is.parties.roster)

pub obey-requires : goal.obey-requires
obey-requires g c = are_so c.args.self.now.cluster c.args.self.now.clients.cores c.args.self.now.clients_are_of

pub invariant_of-self-clause-clients_are_of : goal.invariant_of-self-clause-clients_are_of
invariant_of-self-clause-clients_are_of g c = are_tested c.args.self.now.cluster c.obey.new.self.cores c.obey.ensures.of
