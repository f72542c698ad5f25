use Rattle.std.proofs.Common.{◌≡◌}
use Rattle.rc_msg.specs.Posts.{posted_all, Grows}
use Rattle.rc_protocol.specs.Messages.{to_each, one, coordinator}
use Rattle.rc_client.proofs.posting.post_to_all.Given as goal

abbrev pub invariant-loop-place : goal.invariant-loop-place
invariant-loop-place l = record {
  sends : l.out ≡ posted_all l.fn.out (to_each l.place (λ d. one (coordinator d) l.msg));
  grows : Grows l.fn.out l.out;
}
