-- A node of either kind: what its log gives back, what a stop loses, and what it does.
use Rattle.std.specs.Prelude.{◌≡◌, ℕ, IsTrue, false, List, [], None}
use Rattle.rc_ids.specs.Cluster.{Layout, is_dc}
use Rattle.rc_ids.specs.declared.names.NodeId.{NodeId}
use Rattle.rc_ids.specs.declared.names.NodeId.TheVariants.{Coord, Shard as ShardServer}
use Rattle.rc_record.specs.ShardState.{ShardDurable}
use Rattle.rc_record.specs.CoordState.{CoordDurable}
use Rattle.rc_protocol.specs.Acts.{NodeCause, shard_act, coord_act}
use Rattle.rc_protocol.specs.Shard.{ShardVolatile, new_volatile as new_shard_volatile}
use Rattle.rc_protocol.specs.Coordinator.{CoordVolatile, new_volatile as new_coord_volatile}
use Rattle.rc_node.specs.Acts.{NodeAct, shard_does, coord_does}
use Rattle.rc_node.specs.Cores.{Core}
use Rattle.rc_shard.specs.Sites.{ShardCore}
use Rattle.rc_shard.specs.Replays.{GivesBack as GivesShardBack}
use Rattle.rc_coord.specs.Sites.{CoordCore}
use Rattle.rc_coord.specs.Replays.{GivesBack as GivesCoordBack}

pub data NodeDurable : Type 0 where
  OfShard : ShardDurable → NodeDurable
  OfCoord : CoordDurable → NodeDurable

pub data NodeVolatile : Type 0 where
  OfShardNow : ShardVolatile → NodeVolatile
  OfCoordNow : CoordVolatile → NodeVolatile

abbrev pub AnyNode : Type 0 → Type 0
AnyNode J = Core NodeId NodeDurable NodeVolatile J

abbrev pub AnyAct : Type 0
AnyAct = NodeAct NodeDurable NodeVolatile

abbrev pub of_shard : NodeAct ShardDurable ShardVolatile → AnyAct
of_shard act = record { logs = act.logs; durable = OfShard act.durable; volatile = OfShardNow act.volatile; sends = act.sends; spent = act.spent }

abbrev pub of_coord : NodeAct CoordDurable CoordVolatile → AnyAct
of_coord act = record { logs = act.logs; durable = OfCoord act.durable; volatile = OfCoordNow act.volatile; sends = act.sends; spent = act.spent }

abbrev pub idle : NodeDurable → NodeVolatile → AnyAct
idle s v = record { logs = None; durable = s; volatile = v; sends = []; spent = false }

-- what the node of this name does
abbrev pub node_act : Layout → NodeId → NodeDurable → NodeVolatile → NodeCause → AnyAct
node_act c (ShardServer d sh) (OfShard s) (OfShardNow v) cause = of_shard (shard_does s (shard_act c d sh s v cause))
node_act c (Coord d) (OfCoord s) (OfCoordNow v) cause = of_coord (coord_does s (coord_act c d s v cause))
node_act c node s v cause = idle s v

-- what a stop leaves of what it loses
abbrev pub new_volatile : NodeDurable → NodeVolatile
new_volatile (OfShard s) = OfShardNow new_shard_volatile
new_volatile (OfCoord s) = OfCoordNow new_coord_volatile

abbrev pub act_of : {J : Type 0} → AnyNode J → NodeCause → AnyAct
act_of x cause = node_act x.cluster x.name x.durable x.volatile cause

-- SHARD SERVERS
pub record IsShardServer (node : NodeId) : Type 0 where
  pub dc : ℕ
  pub shard : ℕ
  pub is : node ≡ ShardServer dc shard

abbrev pub shard_seen : {J : Type 0} → ShardCore J → AnyNode J
shard_seen x = record {
  cluster = x.cluster;
  name = ShardServer x.name.dc x.name.shard;
  durable = OfShard x.durable;
  volatile = OfShardNow x.volatile;
  journal = x.journal;
  stopped = x.stopped;
}

abbrev pub shard_back : NodeId → Layout → List (List ℕ) → NodeDurable → Type 0
shard_back node c blobs (OfShard s) = GivesShardBack node c blobs s
shard_back node c blobs (OfCoord s) = ⊥

-- COORDINATORS, each of a datacentre of the cluster
pub record IsCoordinator (node : NodeId) (c : Layout) : Type 0 where
  pub dc : ℕ
  pub is : node ≡ Coord dc
  pub known : IsTrue (is_dc c dc)

abbrev pub coord_seen : {J : Type 0} → CoordCore J → AnyNode J
coord_seen x = record {
  cluster = x.cluster;
  name = Coord x.name;
  durable = OfCoord x.durable;
  volatile = OfCoordNow x.volatile;
  journal = x.journal;
  stopped = x.stopped;
}

abbrev pub coord_back : NodeId → Layout → List (List ℕ) → NodeDurable → Type 0
coord_back node c blobs (OfCoord s) = GivesCoordBack node c blobs s
coord_back node c blobs (OfShard s) = ⊥
