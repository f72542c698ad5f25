use Rattle.rc_plain_world.proofs.SiteEdits.{shard_begins}
use Rattle.rc_plain_world.proofs.shards.shard_starts.Goals as goal

pub returns : goal.returns
returns c = λ h at.
    shard_begins _ c.args.shards.now.items _ c.index_mut.result.now c.restart.new.self h c.new-out.result _ c.index_mut.ensures.value c.in_ok-restart.ensures.node c.in_ok-restart.ensures.device c.new-out.ensures c.in_ok-restart.ensures.sends at
