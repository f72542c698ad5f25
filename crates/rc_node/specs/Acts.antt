-- What an act of a node reads and changes, in one wording for shard servers and coordinators. S is what a node's log gives back, and V
-- what a stop loses.
use Rattle.std.specs.Prelude.{◌≡◌, ℕ, Bool, true, false, IsTrue, List, length, Option, Some, None}
use Rattle.rc_log.specs.Append.{LeavesEither}
use Rattle.rc_log.specs.Journals.{State, Appends, Fails, would_pass_limit}
use Rattle.rc_msg.specs.Outboxes.{Outbox}
use Rattle.rc_msg.specs.Posts.{posted_all}
use Rattle.rc_record.specs.declared.record.Record.{Record}
use Rattle.rc_record.specs.ShardState.{ShardDurable, shard_applied}
use Rattle.rc_record.specs.CoordState.{CoordDurable, coord_applied}
use Rattle.rc_record.specs.Spelling.{record_bytes}
use Rattle.rc_protocol.specs.Messages.{Posts}
use Rattle.rc_protocol.specs.Nodes.{applied}
use Rattle.rc_protocol.specs.Shard.{ShardVolatile, ShardAct}
use Rattle.rc_protocol.specs.Coordinator.{CoordVolatile, CoordAct}
use Rattle.rc_node.specs.declared.fault.NodeFault.{NodeFault}
use Rattle.rc_node.specs.declared.fault.NodeFault.TheVariants.{NoMemory, Failed, Full, BallotsSpent}

-- ACTS
-- what a row makes of a node: the record that it logs, the states after it, and the messages that it sends; or it says that no ballot is
-- left, and does nothing
pub record NodeAct (S V : Type 0) : Type 0 where
  pub logs : Option Record
  pub durable : S
  pub volatile : V
  pub sends : Posts
  pub spent : Bool

-- the row of a shard server, which has no ballots
abbrev pub shard_does : ShardDurable → ShardAct → NodeAct ShardDurable ShardVolatile
shard_does s act = record { logs = act.logs; durable = applied shard_applied s act.logs; volatile = act.after; sends = act.sends; spent = false }

-- the row of a coordinator
abbrev pub coord_does : CoordDurable → CoordAct → NodeAct CoordDurable CoordVolatile
coord_does s act = record { logs = act.logs; durable = applied coord_applied s act.logs; volatile = act.after; sends = act.sends; spent = act.spent }

-- what an act reads and changes
pub record Site (S V : Type 0) : Type 0 where
  pub durable : S
  pub volatile : V
  pub journal : State
  pub out : Outbox

-- a site without its journal
pub record View (S V : Type 0) : Type 0 where
  pub durable : S
  pub volatile : V
  pub out : Outbox

-- RECORDS
-- these bytes entered the journal, which is not longer than its limit with them
pub record Enters (old new : State) (bytes : List ℕ) : Type 0 where
  pub adds : Appends old new bytes
  pub fits : would_pass_limit old (length bytes) ≡ false

-- the disk failed at these bytes: what a crash leaves then has the records before with them or without
pub record Breaks (may_leave : List ℕ → Type 0) (old new : State) (bytes : List ℕ) : Type 0 where
  pub fails : Fails old new bytes
  pub fits : would_pass_limit old (length bytes) ≡ false
  pub leaves : (left : List ℕ) → may_leave left → LeavesEither old.records bytes left

-- the journal has the act's record more, if the act has one
abbrev pub Logs : State → State → Option Record → Type 0
Logs old new None = new ≡ old
Logs old new (Some r) = Enters old new (record_bytes r)

-- the disk failed at the act's record
abbrev pub FailsAt : (List ℕ → Type 0) → State → State → Option Record → Type 0
FailsAt may_leave old new None = ⊥
FailsAt may_leave old new (Some r) = Breaks may_leave old new (record_bytes r)

-- with the act's record the log would be longer than its limit
abbrev pub IsFullAt : State → Option Record → Type 0
IsFullAt old None = ⊥
IsFullAt old (Some r) = IsTrue (would_pass_limit old (length (record_bytes r)))

-- WHAT IS DONE
-- the act was done: its record is in the journal, the states are as after it, and its messages were posted
pub record Acts {S V : Type 0} (old new : Site S V) (act : NodeAct S V) : Type 0 where
  pub durable : new.durable ≡ act.durable
  pub volatile : new.volatile ≡ act.volatile
  pub logs : Logs old.journal new.journal act.logs
  pub sends : new.out ≡ posted_all old.out act.sends
  pub left : act.spent ≡ false

-- an act without a record was done
pub record Tells {S V : Type 0} (old new : View S V) (act : NodeAct S V) : Type 0 where
  pub none : act.logs ≡ None
  pub durable : new.durable ≡ act.durable
  pub volatile : new.volatile ≡ act.volatile
  pub sends : new.out ≡ posted_all old.out act.sends
  pub left : act.spent ≡ false

-- a fault that leaves the journal as it was, and its reason
pub record IsLeft (old new : State) (Reason : Type 0) : Type 0 where
  pub same : new ≡ old
  pub reason : Reason

-- what a fault says of the journal and of the act
abbrev pub Stays : {S V : Type 0} → NodeFault → (List ℕ → Type 0) → State → State → NodeAct S V → Type 0
Stays NoMemory may_leave old new act = new ≡ old
Stays Failed may_leave old new act = FailsAt may_leave old new act.logs
Stays Full may_leave old new act = IsLeft old new (IsFullAt old act.logs)
Stays BallotsSpent may_leave old new act = IsLeft old new (act.spent ≡ true)

-- the act was not done
pub record Refuses {S V : Type 0} (fault : NodeFault) (may_leave : List ℕ → Type 0) (old new : Site S V) (act : NodeAct S V) : Type 0 where
  pub durable : new.durable ≡ old.durable
  pub volatile : new.volatile ≡ old.volatile
  pub journal : Stays fault may_leave old.journal new.journal act
  pub sends : new.out ≡ old.out
