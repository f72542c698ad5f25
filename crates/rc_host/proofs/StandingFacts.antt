-- Standings of the two kinds of nodes, after a stop between two acts and after a start.
use Rattle.std.proofs.Common.{◌≡◌, List, refl, None}
use Rattle.rc_record.specs.declared.record.Record.{Record}
use Rattle.rc_protocol.specs.Nodes.{CoordNode, ShardNode, coord_stopped, shard_stopped, coord_started, shard_started}
use Rattle.rc_host.specs.Standing.{coord_standing, shard_standing, stopped, started_again}

pub coord_stops : (x : CoordNode) → stopped (coord_standing x) ≡ coord_standing (coord_stopped x None)
coord_stops x = refl

pub shard_stops : (x : ShardNode) → stopped (shard_standing x) ≡ shard_standing (shard_stopped x None)
shard_stops x = refl

-- a node that stopped with the records that gave it its states has those of its start
pub coord_starts : (log : List Record) → started_again (coord_standing (coord_stopped (coord_started log) None)) ≡ coord_standing (coord_started log)
coord_starts log = refl

pub shard_starts : (log : List Record) → started_again (shard_standing (shard_stopped (shard_started log) None)) ≡ shard_standing (shard_started log)
shard_starts log = refl
