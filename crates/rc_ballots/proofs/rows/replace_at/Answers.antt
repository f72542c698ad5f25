use Rattle.std.proofs.Common.{sym, subst}
use Rattle.rc_ballots.specs.Tallies.{Rises}
use Rattle.rc_ballots.proofs.BallotFacts.{put_there, Rises-put}
use Rattle.rc_ballots.proofs.rows.replace_at.Goals as goal

pub returns-clause-rows : goal.returns-clause-rows
returns-clause-rows c =
    put_there c.args.ballot c.args.standing c.args.rows.now c.args.place c.index-rows-place.result c.requires.place c.requires.there

pub returns-clause-rise : goal.returns-clause-rise
returns-clause-rise c =
    subst Rises (sym (returns-clause-rows c)) (Rises-put c.args.ballot c.args.standing c.args.rows.now c.requires.rises)
