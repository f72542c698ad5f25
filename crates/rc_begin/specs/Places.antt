-- Nodes at their places: d1, d2 and so on, and d1.s1, d1.s2 and so on, then those of d2.
use Rattle.std.specs.Prelude.{◌≡◌, ℕ, suc, ◌/◌, ◌%◌, List, length, Some, slice_get}
use Rattle.rc_ids.specs.Cluster.{Layout}
use Rattle.rc_ids.specs.declared.names.NodeId.{NodeId}
use Rattle.rc_ids.specs.declared.names.NodeId.TheVariants.{Coord, Shard as ShardServer}
use Rattle.rc_runs.specs.Devices.{Device}

abbrev pub coord_name : ℕ → NodeId
coord_name place = Coord (suc place)

abbrev pub shard_name : Layout → ℕ → NodeId
shard_name c place = ShardServer (suc (place / c.shards)) (suc (place % c.shards))

-- each host is the run's node at its place, on the device there
pub record AreAt {H X : Type 0} (Is : ℕ → H → X → Device → Type 0) (hosts : List H) (nodes : List X) (devices : List Device) : Type 0 where
  pub as_nodes : length nodes ≡ length hosts
  pub as_devices : length devices ≡ length hosts
  pub each : (place : ℕ) (h : H) (x : X) (d : Device) → slice_get hosts place ≡ Some h → slice_get nodes place ≡ Some x → slice_get devices place ≡ Some d → Is place h x d

-- this holds of each host at its place
abbrev pub AllAt : {H : Type 0} → (ℕ → H → Type 0) → List H → Type 0
AllAt {H} P hosts = (place : ℕ) (h : H) → slice_get hosts place ≡ Some h → P place h
