-- Parts of the rows of a shard server.
use Rattle.std.specs.Prelude.{ℕ, Bool, true, not, ◌&&◌, is_some, List, [], Option, Some, None}
use Rattle.std.specs.Ordering.{nat_cmp}
use Rattle.rc_ids.specs.Cluster.{Layout, is_dc}
use Rattle.rc_ids.specs.Tables.{Table, found}
use Rattle.rc_ids.specs.declared.names.Outcome.{Outcome}
use Rattle.rc_body.specs.declared.entry.Entry.{Entry}
use Rattle.rc_msg.specs.declared.msg.Msg.{Msg}
use Rattle.rc_msg.specs.declared.msg.Msg.TheVariants.{ReadAsk, Prepare, Finish, CatchAsk, CatchPage}
use Rattle.rc_record.specs.declared.record.Record.TheVariants.{Prepared}
use Rattle.rc_protocol.specs.Messages.{Posts, coordinator, one}
use Rattle.rc_protocol.specs.Shard.{ShardDurable, ShardVolatile, ShardAct, preempted, answers, ignores_ask, is_next_shard_page}

-- a part is prepared
abbrev pub prepares : ℕ → ℕ → ShardVolatile → ℕ → List Entry → ShardAct
prepares d sh v t part = record { logs = Some (Prepared t part); after = preempted v t part; sends = answers d sh t None }

-- the outcomes from a place on are asked for, if there is one
abbrev pub asks : ℕ → Option ℕ → Posts
asks d None = []
asks d (Some place) = one (coordinator d) (CatchAsk place)

-- a durable state of which only the outcomes matter
abbrev pub only_finished : Table ℕ Outcome → ShardDurable
only_finished finished = record { rows = []; parts = []; finished = finished }

-- a volatile state of which only the place matters
abbrev pub only_placed : ℕ → ShardVolatile
only_placed place = record { plain = []; lost = []; waiting = []; cursor = place }

-- the messages at which nothing can want memory: the rows ignore them, or take a read back
abbrev pub needs_none : Layout → ShardDurable → ShardVolatile → Msg → Bool
needs_none c s v (ReadAsk t k) = ignores_ask s v t k
needs_none c s v (Prepare t part) = is_some (found nat_cmp s.finished t)
needs_none c s v (Finish t o) = is_some (found nat_cmp s.finished t)
needs_none c s v (CatchPage from place page) = not (is_dc c from && is_next_shard_page v place page)
needs_none c s v _ = true
