use Rattle.std.proofs.Common.{◌-◌, ◌≤◌}
use Rattle.rc_net.specs.Parcels.{marks_in, IsQuiet}
use Rattle.rc_net.proofs.marks.next_pending.Given as goal

abbrev pub invariant-loop-place : goal.invariant-loop-place
invariant-loop-place l = IsQuiet l.from l.place (marks_in l.parcels) × (l.from ≤ l.place) × (l.place ≤ l.sent)

abbrev pub decreases-loop-place : goal.decreases-loop-place
decreases-loop-place l = l.sent - l.place
