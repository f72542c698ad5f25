-- The disks of a world's nodes, where its run begins and where it ends.
use Rattle.std.specs.Prelude.{◌≡◌, ℕ, nat_le, nat_lt, Bool, false, ◌&&◌, List, IfSome, IsTrue}
use Rattle.rc_ids.specs.Cluster.{Layout, is_dc, is_shard}
use Rattle.rc_ids.specs.declared.names.NodeId.{NodeId}
use Rattle.rc_ids.specs.declared.names.NodeId.TheVariants.{Coord, Shard as ShardServer}
use Rattle.rc_disk.specs.Places.{Standing}
use Rattle.rc_protocol.specs.Nodes.{shard_index}
use Rattle.rc_runs.specs.Stored.{Place}
use Rattle.rc_devices.specs.Disks.{IsKept}
use Rattle.rc_host.specs.declared.host.Host.{Host}
use Rattle.rc_begin.specs.Hosts.{Runs, Views, CoordsAreTold, ShardsAreTold}
use Rattle.rc_begin.specs.Gatherings.{IsLendable}

-- the node is one of the world
abbrev pub is_node_of : Layout → NodeId → Bool
is_node_of c (Coord d) = is_dc c d
is_node_of c (ShardServer d sh) = is_dc c d && is_shard c sh

-- at the start of the run the disks of all nodes are those of the place, and the farm lends them
abbrev pub AreLendable : Place → Runs → (NodeId → Standing) → Type 0
AreLendable p r stands = (n : NodeId) → IsTrue (is_node_of r.cluster n) → IsLendable p r stands n

-- what the farm's disk of a node tells here is told at the end still
abbrev pub StandsKept : Runs → (NodeId → Standing) → NodeId → Type 0
StandsKept r stands n = IfSome (stands n).told (λ t. IsKept t (r.ended n))

-- so it is of the disks of all nodes
abbrev pub AllStandKept : Runs → (NodeId → Standing) → Type 0
AllStandKept r stands = (n : NodeId) → IsTrue (is_node_of r.cluster n) → StandsKept r stands n

-- what the disks of all nodes tell, those that are lent on their hosts, is told at the end still
pub record AllAreTold {C S J D : Type 0} (v : Views C S J D) (r : Runs) (lent : NodeId → Bool) (stands : NodeId → Standing) (coords : List (Host C J D)) (shards : List (Host S J D)) : Type 0 where
  pub of_coords : CoordsAreTold v.coords r coords
  pub of_shards : ShardsAreTold v.shards r shards
  pub home : (n : NodeId) → IsTrue (is_node_of r.cluster n) → lent n ≡ false → StandsKept r stands n

-- the node is one of the first coordinators, or one of the first shard servers
abbrev pub is_among_first : Layout → ℕ → ℕ → NodeId → Bool
is_among_first c coords shards (Coord d) = nat_le 1 d && nat_le d coords
is_among_first c coords shards (ShardServer d sh) = nat_le 1 d && is_shard c sh && nat_lt (shard_index c d sh) shards

-- the farm has lent the disks of the first coordinators and of the first shard servers, and of no other node
abbrev pub AreLentFirst : (NodeId → Bool) → Layout → ℕ → ℕ → Type 0
AreLentFirst lent c coords shards = (n : NodeId) → lent n ≡ is_among_first c coords shards n
