use Rattle.std.proofs.Common.{◌≡◌, ℕ, List, true, false, sym, ap, subst, ◌∙◌, OnOk}
use Rattle.std.specs.Prelude.{IfErr}
use Rattle.rc_ids.specs.Cluster.{is_quorum, holds as holds_by}
use Rattle.rc_protocol.specs.Client.{ClientAct, Grant}
use Rattle.rc_client.specs.Acts.{Acts, Fails}
use Rattle.rc_client.specs.Slots.{granted_at}
use Rattle.rc_client.specs.States.{client_of, core_of, site_of}
use Rattle.rc_client.proofs.ActFacts.{acts-becomes}
use Rattle.rc_client.proofs.RowFacts.{on_granted-keeps, on_granted-completes}
use Rattle.rc_client.proofs.granting.take_grant.Goals as goal

pub returns-then-not-holds-clause-ok : goal.returns-then-not-holds-clause-ok
returns-then-not-holds-clause-ok c =
    let under : is_quorum c.args.cluster.now (granted_at c.args.progress.now.slots c.args.key.now c.args.grant.dc) ≡ false =
    sym (ap (λ (g : Grant). holds_by c.args.cluster.now.weights (granted_at c.args.progress.now.slots c.args.key.now g.dc)) c.grant.view_is)
    ∙ sym (ap (λ (set : List ℕ). holds_by c.args.cluster.now.weights set) c.granted_with-granted.ensures)
    ∙ sym (ap (λ (weights : List ℕ). holds_by weights c.granted_with-granted.result) c.quorum.ensures)
    ∙ sym c.holds.ensures ∙ c.if-not-holds.true in
    acts-becomes (core_of c.args.progress.now) (core_of c.keep_grant.new.progress) c.args.out.now c.args.lines.now _ _
    (on_granted-keeps c.args.cluster.now c.args.progress.now.tx (client_of c.args.progress.now) c.args.key.now c.args.grant c.requires under)
    c.in_ok-keep_grant.ensures.ok c.in_ok-keep_grant.ensures.tx

pub returns-clause-ok : goal.returns-clause-ok
returns-clause-ok c =
    let holds : is_quorum c.args.cluster.now (granted_at c.args.progress.now.slots c.args.key.now c.args.grant.dc) ≡ true =
    sym (ap (λ (g : Grant). holds_by c.args.cluster.now.weights (granted_at c.args.progress.now.slots c.args.key.now g.dc)) c.grant.view_is)
    ∙ sym (ap (λ (set : List ℕ). holds_by c.args.cluster.now.weights set) c.granted_with-granted.ensures)
    ∙ sym (ap (λ (weights : List ℕ). holds_by weights c.granted_with-granted.result) c.quorum.ensures)
    ∙ sym c.holds.ensures ∙ c.if-not-holds.false in
    subst
    (λ (act : ClientAct). OnOk c.complete.result (Acts (site_of c.args.progress.now c.args.out.now c.args.lines.now)
    (site_of c.complete.new.progress c.complete.new.out c.complete.new.lines) act))
    (sym (on_granted-completes c.args.cluster.now c.args.progress.now.tx (client_of c.args.progress.now) c.args.key.now c.args.grant c.in_ok-done.done
    c.requires holds c.in_ok-done.ensures))
    c.complete.ensures.ok

pub returns-clause-err : goal.returns-clause-err
returns-clause-err c =
    let holds : is_quorum c.args.cluster.now (granted_at c.args.progress.now.slots c.args.key.now c.args.grant.dc) ≡ true =
    sym (ap (λ (g : Grant). holds_by c.args.cluster.now.weights (granted_at c.args.progress.now.slots c.args.key.now g.dc)) c.grant.view_is)
    ∙ sym (ap (λ (set : List ℕ). holds_by c.args.cluster.now.weights set) c.granted_with-granted.ensures)
    ∙ sym (ap (λ (weights : List ℕ). holds_by weights c.granted_with-granted.result) c.quorum.ensures)
    ∙ sym c.holds.ensures ∙ c.if-not-holds.false in
    subst
    (λ (act : ClientAct). IfErr c.complete.result (λ fault. Fails fault (site_of c.args.progress.now c.args.out.now c.args.lines.now)
    (site_of c.complete.new.progress c.complete.new.out c.complete.new.lines) act))
    (sym (on_granted-completes c.args.cluster.now c.args.progress.now.tx (client_of c.args.progress.now) c.args.key.now c.args.grant c.in_ok-done.done
    c.requires holds c.in_ok-done.ensures))
    c.complete.ensures.err
