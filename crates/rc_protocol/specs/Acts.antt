-- What a party does: from its own state, and from a command or a message alone. The world, the nodes and clients of the program and their
-- threads all do this and nothing else.
use Rattle.std.specs.Prelude.{ℕ, List, Option, Some, None, if◌then◌else◌}
use Rattle.rc_ids.specs.Tables.{maybe}
use Rattle.rc_ids.specs.Cluster.{Layout}
use Rattle.rc_ids.specs.declared.names.Party.{Party}
use Rattle.rc_msg.specs.declared.msg.Msg.{Msg}
use Rattle.rc_protocol.specs.Shard.{ShardDurable, ShardVolatile, ShardAct, shard_row, shard_stays, do_catch as shard_catches}
use Rattle.rc_protocol.specs.Coordinator.{CoordDurable, CoordVolatile, CoordAct, coord_row, do_take, do_catch as coord_catches}
use Rattle.rc_protocol.specs.Client.{Client, ClientAct, ClientRefusal, NotOpen, TooManyKeys, client_refuses, is_open, is_out_of_slots, do_read, do_write, do_commit, do_cancel, do_retry, do_vanish, client_row}

-- NODES: a message comes, or a command to catch up or to take a transaction over
pub data NodeCause : Type 0 where
  Came : Party → Msg → NodeCause
  Catches : NodeCause
  Takes : ℕ → NodeCause

abbrev pub coord_act : Layout → ℕ → CoordDurable → CoordVolatile → NodeCause → CoordAct
coord_act c d s v (Came from m) = coord_row c d s v from m
coord_act c d s v Catches = coord_catches c d v
coord_act c d s v (Takes t) = do_take c d s v t

-- coordinators alone take over
abbrev pub shard_act : Layout → ℕ → ℕ → ShardDurable → ShardVolatile → NodeCause → ShardAct
shard_act c d sh s v (Came from m) = shard_row c d sh s v m
shard_act c d sh s v Catches = shard_catches d v
shard_act c d sh s v (Takes t) = shard_stays v

-- CLIENTS: a message comes, or a command
pub data ClientCause : Type 0 where
  Hears : Msg → ClientCause
  Reads : List ℕ → ClientCause
  Writes : List ℕ → List ℕ → ClientCause
  Commits : ClientCause
  Cancels : List ℕ → ClientCause
  Retries : ClientCause
  Vanishes : ClientCause

-- the row of each
abbrev pub client_by_row : Layout → ℕ → Client → ClientCause → ClientAct
client_by_row c t x (Hears m) = client_row c t x m
client_by_row c t x (Reads k) = do_read c t x k
client_by_row c t x (Writes k value) = do_write x k value
client_by_row c t x Commits = do_commit c t x
client_by_row c t x (Cancels k) = do_cancel c t x k
client_by_row c t x Retries = do_retry c t x
client_by_row c t x Vanishes = do_vanish x

-- what is refused before its row is looked at: an open client alone reads, writes, commits and cancels, and has at most 32 keys
abbrev pub if_open : Client → Option ClientRefusal → Option ClientRefusal
if_open x refusal = if is_open x.phase then refusal else Some NotOpen

abbrev pub if_room : Client → List ℕ → Option ClientRefusal
if_room x k = if is_out_of_slots x k then Some TooManyKeys else None

abbrev pub refusal : Client → ClientCause → Option ClientRefusal
refusal x (Reads k) = if_open x (if_room x k)
refusal x (Writes k value) = if_open x (if_room x k)
refusal x Commits = if_open x None
refusal x (Cancels k) = if_open x None
refusal x _ = None

abbrev pub client_act : Layout → ℕ → Client → ClientCause → ClientAct
client_act c t x cause = maybe (refusal x cause) (client_by_row c t x cause) (client_refuses x)
