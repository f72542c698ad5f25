use Rattle.rc_plain_world.specs.Acted.{stopped_shard}
use Rattle.rc_plain_world.proofs.SiteEdits.{shard_edit}
use Rattle.rc_plain_world.proofs.shards.shard_stops.Goals as goal

pub returns-clause-stopped : goal.returns-clause-stopped
returns-clause-stopped c = λ h at.
    shard_edit c.args.shards.now.items _ c.index_mut.result.now c.stop.new.self h stopped_shard c.index_mut.ensures.value c.stop.ensures.node c.stop.ensures.device at
