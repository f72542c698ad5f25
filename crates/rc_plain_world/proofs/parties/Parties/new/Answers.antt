use Rattle.rc_plain_world.proofs.NewSessions.{begun_session}
use Rattle.rc_plain_world.proofs.parties.Parties.new.Goals as goal

pub returns-clause-session : goal.returns-clause-session
returns-clause-session c = begun_session _ c.in_ok-coords.ensures.begin c.in_ok-shards.ensures.begin
