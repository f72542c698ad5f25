-- The log of a shard server, with what replay makes of it.
use Rattle.std.specs.Prelude.{◌≡◌, List, [], ◌∷◌, ◌++◌}
use Rattle.rc_record.specs.declared.record.Record.{Record}
use Rattle.rc_record.specs.declared.shard.ShardDurable.{ShardDurable}
use Rattle.rc_record.specs.ShardState.{new_durable, shard_applied}
use Rattle.rc_protocol.specs.Nodes.{shard_replayed}

pub record LogState : Type 0 where
  pub log : List Record
  pub durable : ShardDurable

-- a log without records
abbrev pub new_log : LogState
new_log = record { log = []; durable = new_durable }

-- the durable state is what the records make
pub record IsReplayed (x : LogState) : Type 0 where
  pub replay : x.durable ≡ shard_replayed new_durable x.log

-- one record more
abbrev pub written : LogState → Record → LogState
written x r = record { log = x.log ++ r ∷ []; durable = shard_applied x.durable r }
