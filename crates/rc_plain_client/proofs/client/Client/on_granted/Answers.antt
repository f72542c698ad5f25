use Rattle.std.proofs.Common.{◌≡◌, true, Some, OnOk, sym, subst, ◌∙◌}
use Rattle.rc_ids.specs.Cluster.{is_quorum}
use Rattle.rc_protocol.specs.Client.{ClientAct, Grant, slot_of, reads_on, wants_grant, with_grant, granted_by}
use Rattle.rc_plain_client.specs.Acts.{Does}
use Rattle.rc_plain_client.proofs.RowFacts.{on_granted-completes}
use Rattle.rc_plain_client.proofs.client.Client.on_granted.Goals as goal

pub returns-then-holds-clause-done : goal.returns-then-holds-clause-done
returns-then-holds-clause-done c =
    let on : reads_on c.args.self.now.phase ≡ true = rw (← c.self.view_is) (sym c.reads_on.ensures ∙ c.if-not-reads_on.false) in
    let found : slot_of c.args.self.now.slots c.args.key.now ≡ Some c.in-Some.slot.now = rw (← c.self.view_is) (sym c.in-Some.ensures) in
    let wants : wants_grant c.in-Some.slot.now c.args.dc ≡ true = sym c.wants_grant.ensures ∙ c.if-not-wants_grant.false in
    let g : Grant = record { dc = c.args.dc; version = c.args.version; value = c.args.value.now } in
    let given : c.in_ok-grants.grants ≡ with_grant c.in-Some.slot.now g = rw (← c.in_ok-copied_value.ensures, ← c.new.ensures) c.in_ok-grants.ensures in
    let holds : is_quorum c.args.cluster.now (granted_by c.in_ok-grants.grants) ≡ true =
    rw (← c.quorum.ensures, ← c.granted_by.ensures) (sym c.holds.ensures ∙ c.if-holds.true) in
    let e = on_granted-completes c.args.cluster.now c.args.tx c.args.self.now c.args.key.now c.in-Some.slot.now g c.in_ok-grants.grants
    c.prints-prints.result on found wants given holds c.prints-prints.ensures in
    subst
    (λ (act : ClientAct). OnOk c.complete.result (Does act c.complete.new.self c.args.out.now c.complete.new.out c.args.lines.now c.complete.new.lines))
    e c.complete.ensures.done
