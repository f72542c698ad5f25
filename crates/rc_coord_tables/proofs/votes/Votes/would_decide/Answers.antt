use Rattle.std.proofs.Common.{ℕ, List, [], is_some, sym, ap, ◌∙◌}
use Rattle.rc_protocol.specs.Coordinator.{Standing}
use Rattle.rc_ids.specs.Tables.{Table}
use Rattle.rc_ids.specs.declared.names.Outcome.{Outcome}
use Rattle.rc_ballots.specs.Tallies.{won_by}
use Rattle.rc_coord_tables.specs.Votes.{VoteTable, would_decide, IsOf}
use Rattle.rc_coord_tables.proofs.MapFacts.{all-found}
use Rattle.rc_coord_tables.proofs.VoteFacts.{would-there, would-none}
use Rattle.rc_coord_tables.proofs.votes.Votes.would_decide.Goals as goal

pub returns-in-Some : goal.returns-in-Some
returns-in-Some c =
    let weights : List ℕ = c.self.inside.quorum in
    let there = sym c.in-Some.ensures.value in
    c.is_some.ensures ∙ ap is_some c.would.ensures
    ∙ ap (λ (w : List ℕ). is_some (won_by w c.in-Some.tally.now.votes c.args.ballot c.args.dc c.outcome-outcome.result))
    (all-found (IsOf weights) c.self.inside.list.entries c.args.tx c.in-Some.tally.now c.self.invariant.fit there)
    ∙ ap (λ (o : Outcome). is_some (won_by weights c.in-Some.tally.now.votes c.args.ballot c.args.dc o)) c.outcome-outcome.ensures
    ∙ would-there weights c.self.inside.list.entries c.args.tx c.self.invariant c.args.ballot c.args.dc c.args.decision.now c.in-Some.tally.now there
    ∙ ap (λ (v : VoteTable). would_decide v c.args.tx c.args.ballot c.args.dc c.args.decision.now) c.self.view_is

pub returns-in-None : goal.returns-in-None
returns-in-None c =
    let weights : List ℕ = c.self.inside.quorum in
    c.is_some-in-None.ensures ∙ ap is_some c.would-in-None-2.ensures
    ∙ ap (λ (w : List ℕ). is_some (won_by w c.new.result.votes c.args.ballot c.args.dc c.outcome-outcome.result)) c.new.ensures.quorum
    ∙ ap (λ (v : Table ℕ Standing). is_some (won_by weights v c.args.ballot c.args.dc c.outcome-outcome.result)) c.new.ensures.votes
    ∙ ap (λ (o : Outcome). is_some (won_by weights [] c.args.ballot c.args.dc o)) c.outcome-outcome.ensures
    ∙ would-none weights c.self.inside.list.entries c.args.tx c.self.invariant c.args.ballot c.args.dc c.args.decision.now (sym c.in-None.ensures.value)
    ∙ ap (λ (v : VoteTable). would_decide v c.args.tx c.args.ballot c.args.dc c.args.decision.now) c.self.view_is
