-- What a world is made of.
use Rattle.rc_log.specs.declared.log.Log.{Log}
use Rattle.rc_coord.specs.Sites.{CoordCore}
use Rattle.rc_shard.specs.Sites.{ShardCore}
use Rattle.rc_host.specs.declared.host.Host.{Host}
use Rattle.rc_world.specs.declared.world.World.{World}
use Rattle.rc_world.specs.Worlds.{Parts}

abbrev pub parts_of : {F D : Type 0} {f g : _} → World F D f g → Parts (Host (CoordCore (Log D g)) (Log D g) D) (Host (ShardCore (Log D g)) (Log D g) D)
parts_of w = record { cluster = w.cluster; coords = w.coords.items; shards = w.shards.items; roster = w.clients; order = w.order; net = w.net; events = w.events; deliveries = w.deliveries }
