-- A node as its callers see it.
use Rattle.std.specs.Prelude.{◌≡◌, ℕ, Bool, true, false, List}
use Rattle.rc_ids.specs.Cluster.{Layout}
use Rattle.rc_log.specs.Journals.{State}
use Rattle.rc_msg.specs.Outboxes.{Outbox}
use Rattle.rc_msg.specs.Posts.{posted_all}
use Rattle.rc_node.specs.declared.fault.NodeFault.{NodeFault}
use Rattle.rc_node.specs.declared.fault.NodeFault.TheVariants.{NoMemory, Failed, Full, BallotsSpent}
use Rattle.rc_node.specs.Acts.{NodeAct, Logs, Stays}

-- its cluster and its name in it, its states, its journal, and whether it is stopped
pub record Core (Name S V J : Type 0) : Type 0 where
  pub cluster : Layout
  pub name : Name
  pub durable : S
  pub volatile : V
  pub journal : J
  pub stopped : Bool

module _ {Name S V J : Type 0} where
  -- the same node with other states
  abbrev pub moved : Core Name S V J → S → V → J → Bool → Core Name S V J
  moved x durable volatile journal stopped = record {
    cluster = x.cluster;
    name = x.name;
    durable = durable;
    volatile = volatile;
    journal = journal;
    stopped = stopped;
  }

  -- a node that starts from this durable state; what a stop loses is new
  abbrev pub started : Layout → Name → S → V → J → Core Name S V J
  started cluster name durable volatile journal = record {
    cluster = cluster;
    name = name;
    durable = durable;
    volatile = volatile;
    journal = journal;
    stopped = false;
  }

-- the node did the act
pub record HasActed {Name S V J : Type 0} (state : J → State) (old new : Core Name S V J) (before after : Outbox) (act : NodeAct S V) : Type 0 where
  pub core : new ≡ moved old act.durable act.volatile new.journal false
  pub logs : Logs (state old.journal) (state new.journal) act.logs
  pub sends : after ≡ posted_all before act.sends
  pub left : act.spent ≡ false

-- the faults after which a node is stopped
abbrev pub stops : NodeFault → Bool
stops NoMemory = false
stops Failed = true
stops Full = true
stops BallotsSpent = false

-- the node did not do the act
pub record HasRefused {Name S V J : Type 0} (state : J → State) (may_leave : J → List ℕ → Type 0) (fault : NodeFault) (old new : Core Name S V J) (before after : Outbox) (act : NodeAct S V) : Type 0 where
  pub core : new ≡ moved old old.durable old.volatile new.journal (stops fault)
  pub journal : Stays fault (may_leave new.journal) (state old.journal) (state new.journal) act
  pub sends : after ≡ before
