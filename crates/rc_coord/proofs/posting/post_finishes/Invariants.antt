use Rattle.std.proofs.Common.{◌≡◌}
use Rattle.rc_protocol.specs.Messages.{to_each}
use Rattle.rc_protocol.specs.Coordinator.{finish_to}
use Rattle.rc_msg.specs.Posts.{posted_all, Grows}
use Rattle.rc_coord.proofs.posting.post_finishes.Given as goal

abbrev pub invariant-loop-number : goal.invariant-loop-number
invariant-loop-number l = record {
  sends : l.out ≡ posted_all l.fn.out (to_each l.number (finish_to l.cluster l.dc l.tx l.decision));
  grows : Grows l.fn.out l.out;
}
