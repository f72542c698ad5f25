-- Shard servers whose states are in the grammar.
use Rattle.std.specs.Prelude.{ℕ, ◌≤◌, List}
use Rattle.std.specs.List.{AllByRecursion}
use Rattle.rc_ids.specs.Texts.{IsKey, IsValue}
use Rattle.rc_body.specs.declared.entry.Entry.{Entry}
use Rattle.rc_fields.specs.Ranges.{IsTxNumber, IsVersionNumber, IsPlace}
use Rattle.rc_record.specs.ShardState.{shard_applied}
use Rattle.rc_protocol.specs.Nodes.{ShardNode, applied}
use Rattle.rc_protocol.specs.Shard.{Mark, ShardDurable, ShardVolatile, ShardAct}
use Rattle.rc_grammar.specs.Acts.{HasLogged, HasLog, HasPosts}

-- a written key has a version from 1 on, and a value
abbrev pub HasRow : List ℕ × (ℕ × List ℕ) → Type 0
HasRow row = (1 ≤ row.1.0) × IsVersionNumber row.1.0 × IsValue row.1.1

-- of a prepared part the transaction is told to others
abbrev pub HasPart : ℕ × List Entry → Type 0
HasPart part = IsTxNumber part.0

pub record HasShardDurable (s : ShardDurable) : Type 0 where
  pub rows : AllByRecursion HasRow s.rows
  pub parts : AllByRecursion HasPart s.parts

abbrev pub HasMark : Mark → Type 0
HasMark m = IsKey m.0 × IsTxNumber m.1

pub record HasShardVolatile (v : ShardVolatile) : Type 0 where
  pub waiting : AllByRecursion HasMark v.waiting
  pub cursor : IsPlace v.cursor

pub record HasShardNode (x : ShardNode) : Type 0 where
  pub log : HasLog x.log
  pub durable : HasShardDurable x.durable
  pub volatile : HasShardVolatile x.volatile

-- all that the act says has a spelling, and the states after it are in the grammar
pub record ShardSpeaks (s : ShardDurable) (act : ShardAct) : Type 0 where
  pub logs : HasLogged act.logs
  pub sends : HasPosts act.sends
  pub durable : HasShardDurable (applied shard_applied s act.logs)
  pub volatile : HasShardVolatile act.after
