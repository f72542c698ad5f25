-- A client as its callers see it, and what an act makes of it, of what it sends and of the lines that it prints.
use Rattle.std.specs.Prelude.{◌≡◌, ◌≤◌, ◌==◌, ℕ, Bool, true, not, ◌||◌, ◌&&◌, List, [], ◌++◌, length, take, Option, Some, None, IfSome}
use Rattle.rc_ids.specs.Cluster.{Layout, is_dc}
use Rattle.rc_msg.specs.Outboxes.{Outbox}
use Rattle.rc_msg.specs.Posts.{posted_all, Grows}
use Rattle.rc_msg.specs.declared.msg.Msg.{Msg}
use Rattle.rc_msg.specs.declared.msg.Msg.TheVariants.{Granted, Voted, Refused, Decided}
use Rattle.rc_report.specs.declared.line.Line.{Line}
use Rattle.rc_protocol.specs.Client.{Client, ClientAct, ClientRefusal, NotOpen as IsNotOpen, TooManyKeys as AreTooManyKeys, KeyWornOut as IsWornOut, new_client, is_over, reads_on, counts_refusal}
use Rattle.rc_client.specs.declared.fault.ClientFault.{ClientFault}
use Rattle.rc_client.specs.declared.fault.ClientFault.TheVariants.{NotOpen, TooManyKeys, KeyWornOut, NoMemory}
use Rattle.rc_client.specs.Slots.{wants_at}

-- a client: its transaction, the step table's state, and the weights by which its votes are counted, once one came
pub record Core : Type 0 where
  pub tx : ℕ
  pub client : Client
  pub weights : Option (List ℕ)

-- a client that did nothing yet
abbrev pub new_core : ℕ → Core
new_core t = record { tx = t; client = new_client; weights = None }

-- the votes are counted by the weights of this cluster
abbrev pub IsOf : Layout → Core → Type 0
IsOf c x = IfSome x.weights (λ weights. weights ≡ c.weights)

-- what an act reads and changes
pub record Site : Type 0 where
  pub core : Core
  pub out : Outbox
  pub lines : List Line

abbrev pub site : Core → Outbox → List Line → Site
site core out lines = record { core = core; out = out; lines = lines }

-- the act was done, and is not one that is refused
pub record Acts (old new : Site) (act : ClientAct) : Type 0 where
  pub tx : new.core.tx ≡ old.core.tx
  pub client : new.core.client ≡ act.after
  pub sends : new.out ≡ posted_all old.out act.sends
  pub lines : new.lines ≡ old.lines ++ act.lines
  pub taken : act.refused ≡ None

-- a fault that is no want of memory is the act's refusal
abbrev pub IsRefusal : ClientFault → Option ClientRefusal → Type 0
IsRefusal NotOpen refusal = refusal ≡ Some IsNotOpen
IsRefusal TooManyKeys refusal = refusal ≡ Some AreTooManyKeys
IsRefusal KeyWornOut refusal = refusal ≡ Some IsWornOut
IsRefusal NoMemory refusal = Unit {0}

-- the act was not done
pub record Refuses (fault : ClientFault) (old new : Site) (act : ClientAct) : Type 0 where
  pub core : new.core ≡ old.core
  pub sends : new.out ≡ old.out
  pub lines : new.lines ≡ old.lines
  pub named : IsRefusal fault act.refused

-- the messages at which nothing can want memory: the rows ignore them
abbrev pub needs_none : Layout → ℕ → Client → Msg → Bool
needs_none c t x (Granted u k d version value) = not (((u == t) && is_dc c d) && wants_at x k d)
needs_none c t x (Voted u b d o) = not ((u == t) && is_dc c d) || is_over x.phase
needs_none c t x (Refused u b d reason) = not (((u == t) && is_dc c d) && counts_refusal x b d)
needs_none c t x (Decided u o) = not (u == t) || is_over x.phase
needs_none c t x _ = true

-- IN BETWEEN
-- the new lines are the old ones and more
pub record Lengthens (old new : List Line) : Type 0 where
  pub longer : length old ≤ length new
  pub back : take (length old) new ≡ old

-- the act was not done, and what it sent and printed is not taken back yet
pub record Fails (fault : ClientFault) (old new : Site) (act : ClientAct) : Type 0 where
  pub core : new.core ≡ old.core
  pub sends : Grows old.out new.out
  pub lines : Lengthens old.lines new.lines
  pub named : IsRefusal fault act.refused
