-- The tables of a shard server as the states that its rows change, and the server as its callers see it.
use Rattle.std.specs.Prelude.{ℕ, Bool, List}
use Rattle.rc_ids.specs.Tables.{Table}
use Rattle.rc_ids.specs.declared.names.Outcome.{Outcome}
use Rattle.rc_body.specs.Rows.{Row}
use Rattle.rc_log.specs.Journals.{State}
use Rattle.rc_msg.specs.Outboxes.{Outbox}
use Rattle.rc_protocol.specs.Acts.{NodeCause, shard_act}
use Rattle.rc_protocol.specs.Shard.{ShardDurable, ShardVolatile}
use Rattle.rc_locks.specs.LockSets.{LockSets}
use Rattle.rc_node.specs.Acts.{NodeAct, Site, View, shard_does}
use Rattle.rc_node.specs.Cores.{Core}
use Rattle.rc_shard.specs.declared.home.Home.{Home}
use Rattle.rc_shard.specs.declared.tables.Tables.{Tables}

abbrev pub ShardSite : Type 0
ShardSite = Site ShardDurable ShardVolatile

abbrev pub ShardView : Type 0
ShardView = View ShardDurable ShardVolatile

-- the datacentre and the number of a shard server
pub record ShardName : Type 0 where
  pub dc : ℕ
  pub shard : ℕ

abbrev pub shard_name : ℕ → ℕ → ShardName
shard_name dc shard = record { dc = dc; shard = shard }

abbrev pub ShardCore : Type 0 → Type 0
ShardCore J = Core ShardName ShardDurable ShardVolatile J

-- what the server does at a cause
abbrev pub act_at : {J : Type 0} → ShardCore J → NodeCause → NodeAct ShardDurable ShardVolatile
act_at x cause = shard_does x.durable (shard_act x.cluster x.name.dc x.name.shard x.durable x.volatile cause)

-- THE TABLES: rows, prepared parts and outcomes are what a log gives back, and marks and the place are lost at a stop
abbrev pub durable_of : List Row → LockSets → Table ℕ Outcome → ShardDurable
durable_of rows locks finished = record { rows = rows; parts = locks.parts; finished = finished }

abbrev pub volatile_of : LockSets → ℕ → ShardVolatile
volatile_of locks place = record { plain = locks.marks.plain; lost = locks.marks.lost; waiting = locks.marks.waiting; cursor = place }

abbrev pub site : List Row → LockSets → Table ℕ Outcome → ℕ → State → Outbox → ShardSite
site rows locks finished place journal out = record { durable = durable_of rows locks finished; volatile = volatile_of locks place; journal = journal; out = out }

abbrev pub site_of : {L : Type 0} → (L → LockSets) → Tables L → State → Outbox → ShardSite
site_of state tables journal out = site tables.versions.rows (state tables.locks) tables.finished.table tables.place journal out

abbrev pub view_of : {L : Type 0} → (L → LockSets) → Tables L → Outbox → ShardView
view_of state tables out = record {
  durable = durable_of tables.versions.rows (state tables.locks) tables.finished.table;
  volatile = volatile_of (state tables.locks) tables.place;
  out = out;
}

abbrev pub core_of : {J L : Type 0} → (L → LockSets) → Home → Tables L → J → Bool → ShardCore J
core_of state home tables journal stopped = record {
  cluster = home.cluster;
  name = shard_name home.dc home.shard;
  durable = durable_of tables.versions.rows (state tables.locks) tables.finished.table;
  volatile = volatile_of (state tables.locks) tables.place;
  journal = journal;
  stopped = stopped;
}
