use Rattle.std.proofs.Common.{[], nat_cmp}
use Rattle.std.specs.Prelude.{if◌then◌else◌}
use Rattle.rc_ids.specs.Tables.{member}
use Rattle.rc_msg.proofs.PostFacts.{Grows-trans}
use Rattle.rc_protocol.specs.Messages.{one, shard_server}
use Rattle.rc_client.proofs.SendFacts.{sent-more}
use Rattle.rc_client.proofs.posting.post_to_shards.Goals as goal

pub loop-place-preserved : goal.loop-place-preserved
loop-place-preserved c = record {
  sends = sent-more c.args.out.now c.loop-place.out c.post_to_shard.new.out c.loop-place.place
      (λ d. if member nat_cmp c.args.except d then [] else one (shard_server d c.args.shard) c.args.msg.now)
      c.loop-place.invariant.sends c.in_ok-post_to_shard.ensures.ok;
  grows = Grows-trans c.args.out.now c.loop-place.out c.post_to_shard.new.out c.loop-place.invariant.grows c.in_ok-post_to_shard.ensures.grows;
}
