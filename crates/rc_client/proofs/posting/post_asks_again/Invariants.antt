use Rattle.std.proofs.Common.{◌≡◌}
use Rattle.rc_msg.specs.Posts.{posted_all, Grows}
use Rattle.rc_protocol.specs.Client.{asks_again}
use Rattle.rc_client.proofs.posting.post_asks_again.Given as goal

abbrev pub invariant-loop-key : goal.invariant-loop-key
invariant-loop-key l = record {
  sends : l.out ≡ posted_all l.fn.out (asks_again l.cluster l.tx l.slots l.yielded);
  grows : Grows l.fn.out l.out;
}
