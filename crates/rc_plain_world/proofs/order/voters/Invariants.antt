use Rattle.std.proofs.Common.{◌≡◌}
use Rattle.rc_ids.specs.declared.names.Outcome.TheVariants.{Commit}
use Rattle.rc_runs.specs.Votes.{voters}
use Rattle.rc_plain_world.specs.Hosts.{coord_nodes}
use Rattle.rc_plain_world.proofs.order.voters.Given as goal

abbrev pub invariant-loop-place : goal.invariant-loop-place
invariant-loop-place l = l.set ≡ voters (coord_nodes l.coords) Commit l.tx l.ballot l.place
