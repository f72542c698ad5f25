use Rattle.std.proofs.Common.{◌≡◌, false, None}
use Rattle.futures.specs.Task.{Keeps}
use Rattle.rc_read.specs.Reads.{is_done}
use Rattle.rc_read.specs.Polls.{Taken}
use Rattle.rc_read.proofs.majority.MajorityReadFuture.poll.Given as goal

abbrev pub invariant-loop-grant : goal.invariant-loop-grant
invariant-loop-grant g l =
    (is_done l.self.state ≡ false) × Keeps l.initial.cx l.cx
    × (g.I.Inbox.waits l.self.inbox ≡ g.I.Inbox.waits l.initial.self.inbox)
    × Taken (g.I.Inbox.given l.initial.self.inbox) l.initial.self.state (g.I.Inbox.given l.self.inbox) l.self.state None

abbrev pub decreases-loop-grant : goal.decreases-loop-grant
decreases-loop-grant g l = g.I.Inbox.left l.self.inbox
