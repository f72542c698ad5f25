use Rattle.std.proofs.Common.{ap}
use Rattle.rc_runs.specs.World.{with_new_client}
use Rattle.rc_plain_world.specs.Acted.{Housed}
use Rattle.rc_plain_world.proofs.parties.Parties.begin.Goals as goal

pub returns-clause-parties : goal.returns-clause-parties
returns-clause-parties c = rw (c.in_ok-insert.ensures.entries, c.new.ensures) (ap (λ (h : Housed). with_new_client h.parties c.args.tx) c.self.view_is)
