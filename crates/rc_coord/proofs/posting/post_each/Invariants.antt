use Rattle.std.proofs.Common.{◌≡◌}
use Rattle.rc_protocol.specs.Messages.{coordinator, one, to_each}
use Rattle.rc_msg.specs.Posts.{posted_all, Grows}
use Rattle.rc_coord.proofs.posting.post_each.Given as goal

abbrev pub invariant-loop-number : goal.invariant-loop-number
invariant-loop-number l = record {
  sends : l.out ≡ posted_all l.fn.out (to_each l.number (λ d. one (coordinator d) l.msg));
  grows : Grows l.fn.out l.out;
}
