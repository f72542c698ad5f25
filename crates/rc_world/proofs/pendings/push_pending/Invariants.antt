use Rattle.std.proofs.Common.{length}
use Rattle.rc_world.proofs.PendingFacts.{Shows, left_at_most}
use Rattle.rc_world.proofs.pendings.push_pending.Given as goal

abbrev pub invariant-loop-next : goal.invariant-loop-next
invariant-loop-next l = Shows l.net l.initial.lines l.lines l.next

abbrev pub decreases-loop-next : goal.decreases-loop-next
decreases-loop-next l = left_at_most (length l.net.sent) l.next
