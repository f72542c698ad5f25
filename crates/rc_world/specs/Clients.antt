-- The clients of a run, and what a command or a message makes of them, of what is sent and of the lines.
use Rattle.std.specs.Prelude.{◌≡◌, ℕ, List, [], ◌∷◌, ◌++◌, map, Option, None, Some, IfSome}
use Rattle.rc_ids.specs.Cluster.{Layout}
use Rattle.rc_ids.specs.Tables.{Table, maybe}
use Rattle.rc_msg.specs.Outboxes.{Outbox}
use Rattle.rc_msg.specs.Posts.{posted_all}
use Rattle.rc_report.specs.declared.line.Line.{Line}
use Rattle.rc_report.specs.declared.fault.Wrong.{Wrong}
use Rattle.rc_report.specs.declared.fault.Wrong.TheVariants.{TooManyKeys}
use Rattle.rc_report.specs.declared.fault.Which.TheVariants.{Version}
use Rattle.rc_protocol.specs.Client.{Client}
use Rattle.rc_protocol.specs.Acts.{ClientCause, Reads, Writes, Commits, Cancels, Retries, Vanishes}
use Rattle.rc_runs.specs.declared.event.Event.{Event}
use Rattle.rc_runs.specs.declared.event.Event.TheVariants.{Begin, Read, Write, Commit, Cancel, Retry, Vanish, Take, Catch, Deliver, Lose, Crash, CrashAt, Restart}
use Rattle.rc_runs.specs.World.{Parties, Deed, Idle, client_does, parties_after, sends_of, lines_of}
use Rattle.rc_runs.specs.Refusals.{named_wrongly, worn_out}
use Rattle.rc_client.specs.Acts.{Core, IsOf}
use Rattle.rc_world.specs.declared.clients.Refused.{Refused}
use Rattle.rc_world.specs.declared.clients.Refused.TheVariants.{NoMemory, Naming, VersionSpent}

-- the transactions that the logs name, and the clients of this run
pub record Roster : Type 0 where
  pub named : List ℕ
  pub cores : Table ℕ Core

abbrev pub roster : List ℕ → Table ℕ Core → Roster
roster named cores = record { named = named; cores = cores }

-- the clients as the world has them
abbrev pub states_of : Table ℕ Core → Table ℕ Client
states_of cores = map (λ (e : ℕ × Core). (e.0, e.1.client)) cores

-- each client is that of its transaction
abbrev pub AreKeyed : Table ℕ Core → Type 0
AreKeyed [] = Unit {0}
AreKeyed (e ∷ es) = (e.1.tx ≡ e.0) × AreKeyed es

-- each client counts its votes by the weights of this cluster
abbrev pub AreOf : Layout → Table ℕ Core → Type 0
AreOf c [] = Unit {0}
AreOf c (e ∷ es) = IsOf c e.1 × AreOf c es

-- the world has these clients, and its logs name these transactions
pub record IsRoster (r : Roster) (p : Parties) : Type 0 where
  pub named : p.start.named ≡ r.named
  pub clients : p.clients ≡ states_of r.cores

-- COMMANDS
-- the client that is told something in the event, and what
abbrev pub command : Event → Option (ℕ × ClientCause)
command (Read t k) = Some (t, Reads k)
command (Write t k value) = Some (t, Writes k value)
command (Commit t) = Some (t, Commits)
command (Cancel t k) = Some (t, Cancels k)
command (Retry t) = Some (t, Retries)
command (Vanish t) = Some (t, Vanishes)
command (Begin t) = None
command (Take d t) = None
command (Catch node) = None
command (Deliver n) = None
command (Lose n) = None
command (Crash node) = None
command (CrashAt node k pick) = None
command (Restart node) = None

-- what the client does at its command; nothing where it is told nothing
abbrev pub told : Parties → Event → Deed
told p e = maybe (command e) Idle (λ (x : ℕ × ClientCause). client_does p x.0 x.1)

-- what is wrong with the command
abbrev pub told_wrongly : Parties → Event → Option Wrong
told_wrongly p e = maybe (command e) None (λ (x : ℕ × ClientCause). named_wrongly p x.0 x.1)

-- WHAT IS MADE OF ALL
-- what a client's deed reads and changes
pub record Scene : Type 0 where
  pub roster : Roster
  pub out : Outbox
  pub lines : List Line

abbrev pub scene : Roster → Outbox → List Line → Scene
scene roster out lines = record { roster = roster; out = out; lines = lines }

-- the deed was done
pub record Did (old new : Scene) (p : Parties) (d : Deed) : Type 0 where
  pub roster : IsRoster new.roster (parties_after p d)
  pub sends : new.out ≡ posted_all old.out (sends_of d)
  pub lines : new.lines ≡ old.lines ++ lines_of d
  pub whole : worn_out d ≡ None

-- a key is one too many
abbrev pub IsOfKeys : Wrong → Type 0
IsOfKeys (TooManyKeys t) = Unit {0}
IsOfKeys _ = ⊥

-- what a refusal says: something was named wrongly; or nothing was, and a version is worn out; or memory was wanting where nothing else
-- than the number of keys can be named wrongly
abbrev pub Says : Refused → Option Wrong → Deed → Type 0
Says NoMemory name d = IfSome name IsOfKeys
Says (Naming given) name d = name ≡ Some given
Says VersionSpent name d = (name ≡ None) × (worn_out d ≡ Some Version)
