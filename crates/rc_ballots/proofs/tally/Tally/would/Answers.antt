use Rattle.std.proofs.Common.{List, ap, ◌∙◌}
use Rattle.rc_protocol.specs.Coordinator.{Standing, standing_at}
use Rattle.rc_ballots.specs.Tallies.{Tally, voting, won}
use Rattle.rc_ballots.proofs.BallotFacts.{Row}
use Rattle.rc_ballots.proofs.tally.Tally.would.Goals as goal

pub returns : goal.returns
returns c =
    let votes = c.deref.ensures.value ∙ ap (λ (t : Tally). t.votes) c.self.view_is in
    let before = c.standing_at.ensures ∙ ap (λ (rows : List Row). standing_at rows c.args.ballot) votes in
    let after = c.voting-standing.ensures ∙ ap (λ (s : Standing). voting s c.args.outcome c.args.dc) before in
    c.won.ensures
    ∙ ap (λ (s : Standing). won c.self.inside.quorum s c.args.outcome) after
    ∙ ap (λ (t : Tally). won t.quorum (voting (standing_at c.args.self.now.votes c.args.ballot) c.args.outcome c.args.dc) c.args.outcome) c.self.view_is
