use Rattle.std.proofs.Common.{◌≡◌, true, sym, subst, ◌∙◌, OnOk}
use Rattle.std.specs.Prelude.{OnErr, is_some}
use Rattle.rc_body.specs.Decisions.{outcome_of}
use Rattle.rc_ballots.specs.Tallies.{won_by}
use Rattle.rc_protocol.specs.Coordinator.{is_decided_by}
use Rattle.rc_protocol.specs.Client.{ClientAct}
use Rattle.rc_client.specs.declared.fault.ClientFault.TheVariants.{NoMemory}
use Rattle.rc_client.specs.Acts.{Acts, Fails}
use Rattle.rc_client.specs.States.{votes_of, client_of, site_of}
use Rattle.rc_client.proofs.RowFacts.{on_voted-learns}
use Rattle.rc_client.proofs.voting.vote.Goals as goal

pub returns-then-would_decide-clause-ok : goal.returns-then-would_decide-clause-ok
returns-then-would_decide-clause-ok c =
    let won : is_some (won_by c.args.cluster.now.weights (votes_of c.args.progress.now.votes) c.args.ballot c.args.dc (outcome_of c.args.decision.now)) ≡ true =
    rw (← c.quorum-quorum.ensures, ← c.outcome-outcome.ensures) (sym c.would_decide.ensures ∙ c.if-would_decide.true) in
    let laws = c.tally_laws.ensures c.args.cluster.now (votes_of c.args.progress.now.votes) c.args.ballot c.args.dc c.args.decision.now in
    let decides : is_decided_by c.args.cluster.now (votes_of c.args.progress.now.votes) c.args.ballot c.args.dc c.args.decision.now ≡ true = laws.decides ∙ won in
    λ out. subst
    (λ (act : ClientAct). OnOk c.vote_last.result (Acts (site_of c.args.progress.now out c.args.lines.now) (site_of c.vote_last.new.progress out c.vote_last.new.lines) act))
    (sym (on_voted-learns c.args.cluster.now c.args.progress.now.tx (client_of c.args.progress.now) c.args.ballot c.args.dc c.args.decision.now c.requires.counts decides))
    (c.vote_last.ensures.ok out)

pub returns-then-would_decide-clause-err : goal.returns-then-would_decide-clause-err
returns-then-would_decide-clause-err c =
    let won : is_some (won_by c.args.cluster.now.weights (votes_of c.args.progress.now.votes) c.args.ballot c.args.dc (outcome_of c.args.decision.now)) ≡ true =
    rw (← c.quorum-quorum.ensures, ← c.outcome-outcome.ensures) (sym c.would_decide.ensures ∙ c.if-would_decide.true) in
    let laws = c.tally_laws.ensures c.args.cluster.now (votes_of c.args.progress.now.votes) c.args.ballot c.args.dc c.args.decision.now in
    let decides : is_decided_by c.args.cluster.now (votes_of c.args.progress.now.votes) c.args.ballot c.args.dc c.args.decision.now ≡ true = laws.decides ∙ won in
    λ out. subst
    (λ (act : ClientAct). OnErr c.vote_last.result (Fails NoMemory (site_of c.args.progress.now out c.args.lines.now) (site_of c.vote_last.new.progress out c.vote_last.new.lines) act))
    (sym (on_voted-learns c.args.cluster.now c.args.progress.now.tx (client_of c.args.progress.now) c.args.ballot c.args.dc c.args.decision.now c.requires.counts decides))
    (c.vote_last.ensures.err out)
