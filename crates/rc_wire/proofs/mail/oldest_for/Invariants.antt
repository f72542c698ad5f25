use Rattle.std.proofs.Common.{length}
use Rattle.rc_ids.specs.Sets.{IsRisingWithin}
use Rattle.rc_net.specs.Network.{message}
use Rattle.rc_wire.specs.Wants.{is_for}
use Rattle.rc_wire.proofs.Walks.{Reached, far}
use Rattle.rc_wire.proofs.mail.oldest_for.Given as goal

abbrev pub invariant-loop-next : goal.invariant-loop-next
invariant-loop-next l = record {
  rises : IsRisingWithin 1 (length l.net.sent) l.net.pending;
  reached : Reached (λ n. is_for l.party l.want (message l.net.sent n)) l.net.pending l.next;
}

abbrev pub decreases-loop-next : goal.decreases-loop-next
decreases-loop-next l = far (length l.net.sent) l.next
