-- What one client makes of a command, and what that makes of all clients.
use Rattle.std.specs.Prelude.{◌≡◌, ℕ, List, ◌++◌, Option, None, Some, Result, Ok, Err, Bool, true, false, IfSome}
use Rattle.rc_ids.specs.Cluster.{Layout}
use Rattle.rc_ids.specs.Tables.{Table, maybe}
use Rattle.rc_msg.specs.Outboxes.{Outbox}
use Rattle.rc_msg.specs.Posts.{posted_all}
use Rattle.rc_report.specs.declared.line.Line.{Line}
use Rattle.rc_report.specs.declared.fault.Wrong.{Wrong}
use Rattle.rc_report.specs.declared.fault.Wrong.TheVariants.{NotOpen, TooManyKeys}
use Rattle.rc_protocol.specs.Client.{Client, ClientAct, ClientRefusal, NotOpen as IsNotOpen, KeyWornOut as IsWornOut, client_stays}
use Rattle.rc_protocol.specs.Acts.{ClientCause, client_act, refusal}
use Rattle.rc_runs.specs.declared.event.Event.{Event}
use Rattle.rc_runs.specs.World.{replaced}
use Rattle.rc_runs.specs.Refusals.{wrong_of}
use Rattle.rc_client.specs.Acts.{Core, Site, Acts}
use Rattle.rc_client.specs.declared.fault.ClientFault.{ClientFault}
use Rattle.rc_client.specs.declared.fault.ClientFault.TheVariants as faults
use Rattle.rc_world.specs.declared.clients.Refused.{Refused}
use Rattle.rc_world.specs.declared.clients.Refused.TheVariants.{NoMemory, Naming, VersionSpent}
use Rattle.rc_world.specs.Clients.{command, states_of, IsOfKeys}

-- what the client of the event is told
abbrev pub cause_of : Event → Option ClientCause
cause_of e = maybe (command e) None (λ (x : ℕ × ClientCause). Some x.1)

-- what the client of t does at its command
abbrev pub told_act : Layout → ℕ → Client → Event → ClientAct
told_act c t x e = maybe (cause_of e) (client_stays x) (client_act c t x)

-- what is wrong with it
abbrev pub told_name : ℕ → Client → Event → Option Wrong
told_name t x e = maybe (cause_of e) None (wrong_of t x)

abbrev pub is_not_open : Option ClientRefusal → Bool
is_not_open (Some IsNotOpen) = true
is_not_open _ = false

-- the client does not take the command, since it is not open
abbrev pub is_shut : Client → Event → Bool
is_shut x e = maybe (cause_of e) false (λ cause. is_not_open (refusal x cause))

-- what a client's fault is in a script
abbrev pub refused_of : ℕ → ClientFault → Refused
refused_of t faults.NotOpen = Naming (NotOpen t)
refused_of t faults.TooManyKeys = Naming (TooManyKeys t)
refused_of t faults.KeyWornOut = VersionSpent
refused_of t faults.NoMemory = NoMemory

-- the client did it, and nothing was named wrongly
pub record Takes (old new : Site) (act : ClientAct) (name : Option Wrong) : Type 0 where
  pub acts : Acts old new act
  pub right : name ≡ None
  pub weights : new.core.weights ≡ old.core.weights

-- what the refusal of one client says
abbrev pub SaysOf : Refused → Option Wrong → Option ClientRefusal → Type 0
SaysOf NoMemory name refusal = IfSome name IsOfKeys
SaysOf (Naming given) name refusal = name ≡ Some given
SaysOf VersionSpent name refusal = (name ≡ None) × (refusal ≡ Some IsWornOut)

-- the client did not do it
pub record Declines (r : Refused) (old new : Site) (act : ClientAct) (name : Option Wrong) : Type 0 where
  pub same : new ≡ old
  pub says : SaysOf r name act.refused

-- and what its answer is
abbrev pub answer_of : ℕ → Result (Unit {0}) ClientFault → Result (Unit {0}) Refused
answer_of t (Ok done) = Ok done
answer_of t (Err fault) = Err (refused_of t fault)

-- what became of the command
abbrev pub Answers : Result (Unit {0}) Refused → Site → Site → ClientAct → Option Wrong → Type 0
Answers (Ok done) old new act name = Takes old new act name
Answers (Err r) old new act name = Declines r old new act name

-- the client of t did this among all, and nothing else was done
pub record Served (cores cores' : Table ℕ Core) (out out' : Outbox) (lines lines' : List Line) (t : ℕ) (act : ClientAct) : Type 0 where
  pub clients : states_of cores' ≡ replaced (states_of cores) t act.after
  pub sends : out' ≡ posted_all out act.sends
  pub prints : lines' ≡ lines ++ act.lines
  pub taken : act.refused ≡ None
