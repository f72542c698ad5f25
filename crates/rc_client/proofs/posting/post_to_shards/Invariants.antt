use Rattle.std.proofs.Common.{◌≡◌, [], nat_cmp}
use Rattle.std.specs.Prelude.{if◌then◌else◌}
use Rattle.rc_ids.specs.Tables.{member}
use Rattle.rc_msg.specs.Posts.{posted_all, Grows}
use Rattle.rc_protocol.specs.Messages.{to_each, one, shard_server}
use Rattle.rc_client.proofs.posting.post_to_shards.Given as goal

abbrev pub invariant-loop-place : goal.invariant-loop-place
invariant-loop-place l = record {
  sends : l.out ≡ posted_all l.fn.out (to_each l.place (λ d. if member nat_cmp l.except d then [] else one (shard_server d l.shard) l.msg));
  grows : Grows l.fn.out l.out;
}
