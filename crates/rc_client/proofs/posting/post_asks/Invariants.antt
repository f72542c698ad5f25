use Rattle.std.proofs.Common.{◌≡◌}
use Rattle.rc_msg.specs.Posts.{posted_all, Grows}
use Rattle.rc_protocol.specs.Client.{asks_all}
use Rattle.rc_client.proofs.posting.post_asks.Given as goal

abbrev pub invariant-loop-key : goal.invariant-loop-key
invariant-loop-key l = record {
  sends : l.out ≡ posted_all l.fn.out (asks_all l.cluster l.tx l.yielded);
  grows : Grows l.fn.out l.out;
}
