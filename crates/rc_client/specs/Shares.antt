-- What a client sends to a shard of several datacentres.
use Rattle.std.specs.Prelude.{ℕ, List, [], if◌then◌else◌}
use Rattle.std.specs.Ordering.{nat_cmp}
use Rattle.rc_ids.specs.Cluster.{Layout}
use Rattle.rc_ids.specs.Tables.{member}
use Rattle.rc_msg.specs.declared.msg.Msg.{Msg}
use Rattle.rc_protocol.specs.Messages.{Posts, shard_server, one, to_each}

-- to the shard of each datacentre that is not in the set
abbrev pub to_shards : Layout → ℕ → List ℕ → Msg → Posts
to_shards c shard except m = to_each c.dcs (λ d. if member nat_cmp except d then [] else one (shard_server d shard) m)
