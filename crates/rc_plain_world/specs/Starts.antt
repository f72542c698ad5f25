-- Nodes whose logs were created on empty disks.
use Rattle.std.specs.Prelude.{◌≡◌, ℕ, List, [], map, Ok}
use Rattle.std.specs.List.{flat_map}
use Rattle.rc_ids.specs.Tables.{up_to}
use Rattle.rc_ids.specs.Cluster.{Layout}
use Rattle.rc_ids.specs.declared.names.NodeId.{NodeId}
use Rattle.rc_ids.specs.declared.names.NodeId.TheVariants.{Coord, Shard as ShardServer}
use Rattle.rc_record.specs.Heads.{new_head}
use Rattle.rc_record.specs.declared.record.Record.TheVariants.{Head}
use Rattle.rc_protocol.specs.Nodes.{coord_started, shard_started}
use Rattle.rc_runs.specs.Devices.{Device, new_device, created, appended, record_length}
use Rattle.rc_runs.specs.Stored.{Begun, in_memory, begins_node}
use Rattle.rc_plain_world.specs.Hosts.{CoordSite, ShardSite}

-- the disk after the creation of the log and its head
abbrev pub headed : Layout → NodeId → Device
headed c node = (appended (created (new_device [] [])).1 (record_length (Head (new_head node c)))).1

abbrev pub begun : Layout → NodeId → Begun
begun c node = record { node = node; device = headed c node; log = [] }

-- the node begins so
abbrev pub Begins : Layout → NodeId → Type 0
Begins c node = begins_node in_memory c node ≡ Ok (begun c node)

abbrev pub coord_site : Layout → ℕ → CoordSite
coord_site c d = record { node = coord_started []; device = headed c (Coord d) }

abbrev pub shard_site : Layout → ℕ → ℕ → ShardSite
shard_site c d s = record { node = shard_started []; device = headed c (ShardServer d s) }

abbrev pub coord_sites : Layout → ℕ → List CoordSite
coord_sites c dcs = map (coord_site c) (up_to dcs)

abbrev pub shard_sites_of : Layout → ℕ → ℕ → List ShardSite
shard_sites_of c shards d = map (shard_site c d) (up_to shards)

abbrev pub shard_sites : Layout → ℕ → List ShardSite
shard_sites c dcs = flat_map (shard_sites_of c c.shards) (up_to dcs)
