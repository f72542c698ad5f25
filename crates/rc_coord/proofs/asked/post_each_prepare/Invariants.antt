use Rattle.std.proofs.Common.{◌≡◌}
use Rattle.rc_protocol.specs.Messages.{to_each}
use Rattle.rc_protocol.specs.Coordinator.{prepare_to}
use Rattle.rc_msg.specs.Posts.{posted_all, Grows}
use Rattle.rc_coord_tables.specs.Gathers.{gather_of}
use Rattle.rc_coord.proofs.asked.post_each_prepare.Given as goal

abbrev pub invariant-loop-number : goal.invariant-loop-number
invariant-loop-number l = record {
  sends : l.out ≡ posted_all l.fn.out (to_each l.number (prepare_to l.cluster l.dc l.tx (gather_of l.asked)));
  grows : Grows l.fn.out l.out;
}
