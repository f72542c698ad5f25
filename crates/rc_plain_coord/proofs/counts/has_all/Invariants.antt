use Rattle.std.proofs.Common.{◌≡◌, filter}
use Rattle.std.specs.List.{list_all}
use Rattle.std.specs.Ordering.{nat_cmp}
use Rattle.rc_ids.specs.Tables.{member, up_to}
use Rattle.rc_body.specs.Bodies.{touches}
use Rattle.rc_plain_coord.proofs.counts.has_all.Given as goal

abbrev pub invariant-loop-place : goal.invariant-loop-place
invariant-loop-place l = l.all ≡ list_all (member nat_cmp l.yes) (filter (touches l.cluster l.body) (up_to l.place))
