use Rattle.std.proofs.Common.{refl}
use Rattle.rc_ballots.proofs.standings.Standings.add.Goals as goal

pub returns : goal.returns
returns c = rw (c.in_ok-insert.ensures.entries, c.self.view_is, c.with-standing.ensures, c.standing_at.ensures) refl
