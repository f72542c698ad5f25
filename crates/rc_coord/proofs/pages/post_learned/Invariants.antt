use Rattle.std.proofs.Common.{◌≡◌, drop}
use Rattle.rc_msg.specs.Posts.{posted_all, Grows}
use Rattle.rc_protocol.specs.Coordinator.{finish_all_posts}
use Rattle.rc_coord.proofs.pages.post_learned.Given as goal

abbrev pub invariant-loop-index : goal.invariant-loop-index
invariant-loop-index l = record {
  sends : posted_all l.out (finish_all_posts l.cluster l.dc (drop l.index l.page)) ≡ posted_all l.fn.out (finish_all_posts l.cluster l.dc l.page);
  grows : Grows l.fn.out l.out;
}
