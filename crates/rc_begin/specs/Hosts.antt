-- The nodes of a world on their hosts.
use Rattle.std.specs.Prelude.{◌≡◌, ℕ, Bool, false, List, slice_get, Option}
use Rattle.rc_ids.specs.Tables.{maybe}
use Rattle.rc_ids.specs.Cluster.{Layout}
use Rattle.rc_ids.specs.declared.names.NodeId.{NodeId}
use Rattle.rc_disk.specs.Calls.{Told}
use Rattle.rc_disk.specs.declared.power.Power.{Power}
use Rattle.rc_disk.specs.Places.{Start}
use Rattle.rc_log.specs.Journals.{State}
use Rattle.rc_coord.specs.Sites.{CoordCore}
use Rattle.rc_shard.specs.Sites.{ShardCore}
use Rattle.rc_record.specs.CoordState.{new_durable as new_coord_durable}
use Rattle.rc_record.specs.ShardState.{new_durable as new_shard_durable}
use Rattle.rc_protocol.specs.Nodes.{CoordNode, ShardNode, coord_replayed, shard_replayed}
use Rattle.rc_runs.specs.Devices.{Device}
use Rattle.rc_runs.specs.World.{Parties}
use Rattle.rc_host.specs.AnyNode.{coord_seen, shard_seen, coord_back, shard_back}
use Rattle.rc_host.specs.Standing.{coord_standing, shard_standing}
use Rattle.rc_host.specs.Hosts.{Sight, sight, Run, IsHost, IsToldBy, is_up}
use Rattle.rc_host.specs.declared.host.Host.{Host}
use Rattle.rc_begin.specs.Places.{coord_name, shard_name, AreAt, AllAt}

-- where the runs of all nodes begin, and what their disks tell at the end
pub record Runs : Type 0 where
  pub cluster : Layout
  pub begun : NodeId → Start
  pub ended : NodeId → Told

abbrev pub run_at : Runs → NodeId → Run
run_at r node = record { cluster = r.cluster; node = node; begun = r.begun node; ended = r.ended node }

-- what coordinators and shard servers, their journals and disks show
pub record Views (C S J D : Type 0) : Type 0 where
  pub coords : Sight C J D
  pub shards : Sight S J D

abbrev pub views : {J D : Type 0} → (J → State) → (D → Option Told) → (D → Option (List ℕ)) → (D → Power) → Views (CoordCore J) (ShardCore J) J D
views state told content power = record { coords = sight coord_seen state told content power; shards = sight shard_seen state told content power }

-- the run's node on its host; its durable state is the replay of its log
pub record IsCoord {C J D : Type 0} (s : Sight C J D) (r : Runs) (place : ℕ) (h : Host C J D) (x : CoordNode) (d : Device) : Type 0 where
  pub host : IsHost s (coord_back (coord_name place) r.cluster) (run_at r (coord_name place)) h (coord_standing x) d
  pub replay : x.durable ≡ coord_replayed new_coord_durable x.log

pub record IsShard {S J D : Type 0} (s : Sight S J D) (r : Runs) (place : ℕ) (h : Host S J D) (x : ShardNode) (d : Device) : Type 0 where
  pub host : IsHost s (shard_back (shard_name r.cluster place) r.cluster) (run_at r (shard_name r.cluster place)) h (shard_standing x) d
  pub replay : x.durable ≡ shard_replayed new_shard_durable x.log

-- all nodes are on their hosts
pub record HostsAre {C S J D : Type 0} (v : Views C S J D) (r : Runs) (coords : List (Host C J D)) (shards : List (Host S J D)) (p : Parties) (coord_devices shard_devices : List Device) : Type 0 where
  pub of_coords : AreAt (IsCoord v.coords r) coords p.coords coord_devices
  pub of_shards : AreAt (IsShard v.shards r) shards p.shards shard_devices

-- there is a host at the place, and its node is up
abbrev pub is_up_at : {N J D : Type 0} → List (Host N J D) → ℕ → Bool
is_up_at hosts place = maybe (slice_get hosts place) false (λ h. is_up h)

-- what the disks tell now is told at the end still
abbrev pub CoordsAreTold : {C J D : Type 0} → Sight C J D → Runs → List (Host C J D) → Type 0
CoordsAreTold s r coords = AllAt (λ place h. IsToldBy s h (r.ended (coord_name place))) coords

abbrev pub ShardsAreTold : {S J D : Type 0} → Sight S J D → Runs → List (Host S J D) → Type 0
ShardsAreTold s r shards = AllAt (λ place h. IsToldBy s h (r.ended (shard_name r.cluster place))) shards
