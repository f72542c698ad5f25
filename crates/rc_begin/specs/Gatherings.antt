-- Nodes of a world that have begun, in the order in which they begin.
use Rattle.std.specs.Prelude.{◌≡◌, ℕ, Bool, false, ◌&&◌, nat_le, List, map, Ok}
use Rattle.std.specs.List.{flat_map}
use Rattle.rc_ids.specs.declared.names.NodeId.{NodeId}
use Rattle.rc_ids.specs.declared.names.NodeId.TheVariants.{Shard as ShardServer}
use Rattle.rc_ids.specs.Tables.{up_to}
use Rattle.rc_disk.specs.Places.{Standing}
use Rattle.rc_runs.specs.Devices.{Device}
use Rattle.rc_runs.specs.Stored.{Place, Begun, begins_all, if_coord, if_shard, coords_of, shards_of, records_of}
use Rattle.rc_host.specs.declared.host.Host.{Host}
use Rattle.rc_begin.specs.Beginnings.{IsStartOf}
use Rattle.rc_begin.specs.Places.{AreAt}
use Rattle.rc_begin.specs.Hosts.{Runs, Views, run_at, IsCoord, IsShard}

abbrev pub coord_devices : List Begun → List Device
coord_devices xs = flat_map (λ (x : Begun). if_coord x.node x.device) xs

abbrev pub shard_devices : List Begun → List Device
shard_devices xs = flat_map (λ (x : Begun). if_shard x.node x.device) xs

-- these nodes have begun on these hosts; the blobs are the records that their logs had
pub record AreGathered {C S J D : Type 0} (v : Views C S J D) (r : Runs) (p : Place) (nodes : List NodeId) (coords : List (Host C J D)) (coord_logs : List (List (List ℕ))) (shards : List (Host S J D)) (shard_logs : List (List (List ℕ))) : Type 0 where
  pub begun : List Begun
  pub is : begins_all p r.cluster nodes ≡ Ok begun
  pub of_coords : AreAt (IsCoord v.coords r) coords (coords_of begun) (coord_devices begun)
  pub of_shards : AreAt (IsShard v.shards r) shards (shards_of begun) (shard_devices begun)
  pub logs_of_coords : map (λ x. x.log) (coords_of begun) ≡ map records_of coord_logs
  pub logs_of_shards : map (λ x. x.log) (shards_of begun) ≡ map records_of shard_logs

-- at the start of the run the node's disk is that of the place, and the farm lends it
pub record IsLendable (p : Place) (r : Runs) (stands : NodeId → Standing) (node : NodeId) : Type 0 where
  pub lends : p.lend_fails node ≡ false
  pub starts : IsStartOf p (run_at r node) (stands node)

-- the first shard servers of a datacentre
abbrev pub servers : ℕ → ℕ → List NodeId
servers d n = map (λ (sh : ℕ). ShardServer d sh) (up_to n)

-- of the datacentre's shard servers the farm has lent the disks of the first
abbrev pub are_lent : ℕ → ℕ → Bool
are_lent n sh = nat_le 1 sh && nat_le sh n
