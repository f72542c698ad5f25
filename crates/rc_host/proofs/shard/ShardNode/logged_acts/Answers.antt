use Rattle.rc_host.proofs.Logging.{shard_logged}
use Rattle.rc_host.proofs.shard.ShardNode.logged_acts.Goals as goal

pub returns : goal.returns
returns g c = λ node cluster x cause has.
    shard_logged cluster c.record_laws.ensures.again x.up x.log node (λ blobs d sh s v k back some. c.replay_laws.ensures.keeps node cluster blobs d sh s v k back some) x.durable x.volatile cause has
