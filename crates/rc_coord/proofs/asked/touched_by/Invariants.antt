use Rattle.std.proofs.Common.{◌≡◌, filter}
use Rattle.rc_ids.specs.Tables.{up_to}
use Rattle.rc_body.specs.Bodies.{touches}
use Rattle.rc_coord.proofs.asked.touched_by.Given as goal

abbrev pub invariant-loop-place : goal.invariant-loop-place
invariant-loop-place l = l.set ≡ filter (touches l.cluster l.body) (up_to l.place)
