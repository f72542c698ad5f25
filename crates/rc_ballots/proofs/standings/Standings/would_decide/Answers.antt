use Rattle.std.proofs.Common.{refl}
use Rattle.rc_ballots.proofs.standings.Standings.would_decide.Goals as goal

pub returns : goal.returns
returns c = rw (c.holds.ensures, c.voters.ensures, c.with-standing.ensures, c.standing_at.ensures, c.quorum.ensures) refl
