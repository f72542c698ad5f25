-- Nodes: what stands in a node's log, what it makes of it, and what a stop loses.
use Rattle.std.specs.Prelude.{ℕ, ◌+◌, ◌-◌, ◌*◌, ◌==◌, ◌&&◌, Bool, true, false, List, [], ◌∷◌, ◌++◌, Option, Some, None}
use Rattle.std.specs.Ordering.{nat_cmp}
use Rattle.rc_ids.specs.Tables.{added}
use Rattle.rc_ids.specs.Cluster.{Layout}
use Rattle.rc_ids.specs.declared.names.Outcome.{Outcome}
use Rattle.rc_ids.specs.declared.names.Outcome.TheVariants.{Commit as Committed, Abort as Aborted}
use Rattle.rc_body.specs.declared.decision.Decision.{Decision}
use Rattle.rc_body.specs.declared.decision.Decision.TheVariants.{Commit, Abort}
use Rattle.rc_record.specs.declared.record.Record.{Record}
use Rattle.rc_record.specs.declared.record.Record.TheVariants.{Head, Prepared, Finished, Promised, Accepted, Decided}
use Rattle.rc_record.specs.declared.shard.ShardDurable.{ShardDurable}
use Rattle.rc_record.specs.ShardState.{shard_applied, new_durable as new_shard_durable}
use Rattle.rc_record.specs.declared.coord.CoordDurable.{CoordDurable}
use Rattle.rc_record.specs.CoordState.{coord_applied, new_durable as new_coord_durable}
use Rattle.rc_protocol.specs.Shard.{ShardVolatile, ShardAct, new_volatile as new_shard_volatile}
use Rattle.rc_protocol.specs.Coordinator.{CoordVolatile, CoordAct, new_volatile as new_coord_volatile}

-- the records of its log without the heads
pub record CoordNode : Type 0 where
  pub up : Bool
  pub log : List Record
  pub durable : CoordDurable
  pub volatile : CoordVolatile

pub record ShardNode : Type 0 where
  pub up : Bool
  pub log : List Record
  pub durable : ShardDurable
  pub volatile : ShardVolatile

-- INDICES OF NODES: d1, d2 and so on; and d1.s1, d1.s2 and so on, then those of d2
abbrev pub coord_index : ℕ → ℕ
coord_index d = d - 1

abbrev pub shard_index : Layout → ℕ → ℕ → ℕ
shard_index c d sh = (d - 1) * c.shards + (sh - 1)

-- REPLAY: the durable state is what the records of the log make, one after another
abbrev pub coord_replayed : CoordDurable → List Record → CoordDurable
coord_replayed s [] = s
coord_replayed s (r ∷ rs) = coord_replayed (coord_applied s r) rs

abbrev pub shard_replayed : ShardDurable → List Record → ShardDurable
shard_replayed s [] = s
shard_replayed s (r ∷ rs) = shard_replayed (shard_applied s r) rs

-- a node that starts from these records has their replay and nothing else
abbrev pub coord_started : List Record → CoordNode
coord_started log = record { up = true; log = log; durable = coord_replayed new_coord_durable log; volatile = new_coord_volatile }

abbrev pub shard_started : List Record → ShardNode
shard_started log = record { up = true; log = log; durable = shard_replayed new_shard_durable log; volatile = new_shard_volatile }

-- RECORDS come into the log before anything else changes
abbrev pub logged : List Record → Option Record → List Record
logged log None = log
logged log (Some r) = log ++ r ∷ []

abbrev pub applied : {S : Type 0} → (S → Record → S) → S → Option Record → S
applied apply s None = s
applied apply s (Some r) = apply s r

abbrev pub coord_after : CoordNode → CoordAct → CoordNode
coord_after x act = record x { log = logged x.log act.logs; durable = applied coord_applied x.durable act.logs; volatile = act.after }

abbrev pub shard_after : ShardNode → ShardAct → ShardNode
shard_after x act = record x { log = logged x.log act.logs; durable = applied shard_applied x.durable act.logs; volatile = act.after }

-- a node that stops keeps its log, with one more record or none
abbrev pub coord_stopped : CoordNode → Option Record → CoordNode
coord_stopped x kept = record { up = false; log = logged x.log kept; durable = applied coord_applied x.durable kept; volatile = new_coord_volatile }

abbrev pub shard_stopped : ShardNode → Option Record → ShardNode
shard_stopped x kept = record { up = false; log = logged x.log kept; durable = applied shard_applied x.durable kept; volatile = new_shard_volatile }

-- THE TRANSACTIONS THAT A LOG NAMES, joined to those named before
abbrev pub with_txs : List ℕ → List (ℕ × Decision) → List ℕ
with_txs named [] = named
with_txs named (e ∷ es) = with_txs (added nat_cmp named e.0) es

-- those of a record
abbrev pub with_named : List ℕ → Record → List ℕ
with_named named (Prepared t part) = added nat_cmp named t
with_named named (Finished page) = with_txs named page
with_named named (Promised t b) = added nat_cmp named t
with_named named (Accepted t b o) = added nat_cmp named t
with_named named (Decided page) = with_txs named page
with_named named (Head h) = named

abbrev pub with_log : List ℕ → List Record → List ℕ
with_log named [] = named
with_log named (r ∷ rs) = with_log (with_named named r) rs

-- VOTES
-- the record is a vote for the outcome of t at ballot b
abbrev pub is_vote : Outcome → ℕ → ℕ → Record → Bool
is_vote Committed t b (Accepted u a (Commit body)) = (u == t) && (a == b)
is_vote Aborted t b (Accepted u a Abort) = (u == t) && (a == b)
is_vote outcome t b _ = false
