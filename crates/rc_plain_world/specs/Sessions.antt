-- How events and lines of a script end early.
use Rattle.std.specs.Prelude.{◌≡◌, ℕ, ◌++◌, Bool, true, false, ◌&&◌, nat_le, nat_lt, if◌then◌else◌, List, Option, None, Some, Result, Ok, Err}
use Rattle.rc_report.specs.declared.line.Line.{Line}
use Rattle.rc_runs.specs.declared.event.Event.{Event}
use Rattle.rc_ids.specs.Tables.{maybe}
use Rattle.rc_ids.specs.declared.names.Party.{Party}
use Rattle.rc_msg.specs.declared.msg.Envelope.{Envelope}
use Rattle.rc_protocol.specs.Messages.{Posts}
use Rattle.rc_runs.specs.Refusals.{worn_out, too_much_sent}
use Rattle.rc_runs.specs.declared.event.Event.TheVariants.{Begin, Deliver, Lose, Crash, CrashAt, Restart}
use Rattle.rc_runs.specs.World.{World, step, Deed, actor, message, parties_after, after_begin, sends_of, course_deed, printed as printed_by}
use Rattle.rc_runs.specs.Script.{LineDone}
use Rattle.rc_report.specs.declared.fault.Which.{Which}
use Rattle.rc_report.specs.declared.fault.Which.TheVariants.{Version, Ballots, Transactions, Events, TextBytes}
use Rattle.rc_runs.specs.Refusals.{begins, most_transactions, most_events}
use Rattle.rc_runs.specs.Session.{Session, Happened, Halt, Misnamed, Limited, disk_change, most_text_bytes}
use Rattle.rc_plain_world.specs.Networks.{Network}
use Rattle.rc_plain_world.specs.Acted.{Housed, Refuses, disks_after}
use Rattle.rc_plain_world.specs.declared.fault.ActFault.{ActFault}
use Rattle.rc_plain_world.specs.declared.fault.ActFault.TheVariants.{NoMemory as ActNoMemory, VersionSpent, BallotsSpent}
use Rattle.rc_plain_world.specs.declared.fault.LimitFault.{LimitFault}
use Rattle.rc_plain_world.specs.declared.fault.LimitFault.TheVariants.{NoMemory as LimitNoMemory, Limit as AtLimit}
use Rattle.rc_plain_world.specs.declared.fault.SessionFault.{SessionFault}
use Rattle.rc_plain_world.specs.declared.fault.SessionFault.TheVariants.{NoMemory, Naming, Limit}

abbrev pub fault_of_act : ActFault → LimitFault
fault_of_act ActNoMemory = LimitNoMemory
fault_of_act VersionSpent = AtLimit Version
fault_of_act BallotsSpent = AtLimit Ballots

abbrev pub fault_of_limit : LimitFault → SessionFault
fault_of_limit LimitNoMemory = NoMemory
fault_of_limit (AtLimit which) = Limit which

-- what went so was refused with the fault, but for want of memory
abbrev pub Halts : {A : Type 0} → SessionFault → Result A Halt → Type 0
Halts NoMemory went = Unit {0}
Halts (Limit which) went = went ≡ Err (Limited which)
Halts (Naming name) went = went ≡ Err (Misnamed name)

-- a line ended early with the fault, after it printed these lines; nothing is known for want of memory
abbrev pub Halted : SessionFault → LineDone → List Line → Type 0
Halted NoMemory done lines = Unit {0}
Halted (Limit which) done lines = (done.lines ≡ lines) × (done.halt ≡ Some (Limited which))
Halted (Naming name) done lines = (done.lines ≡ lines) × (done.halt ≡ Some (Misnamed name))

-- a line was performed to its end
pub record Performed (done : LineDone) (session : Session) (printed : List Line) : Type 0 where
  pub after : done.after ≡ session
  pub lines : done.lines ≡ printed
  pub ends : done.halt ≡ None

-- the lines that the event prints on the session
abbrev pub event_lines : Session → Event → List Line
event_lines z e = printed_by z.world e (disk_change z e).course

-- an event happened
pub record EventHappened (went : Happened) (session : Session) (own lines printed : List Line) : Type 0 where
  pub went_so : went ≡ Ok (session, own)
  pub prints : printed ≡ lines ++ own

-- the lines stay where an event is refused
abbrev pub Stay : SessionFault → List Line → List Line → Type 0
Stay NoMemory lines printed = Unit {0}
Stay fault lines printed = printed ≡ lines

-- the session of these parts
abbrev pub session_of : Housed → Network → ℕ → ℕ → Session
session_of h n events text = record {
  world = record { parties = h.parties; sent = n.sent; bytes = n.bytes; pending = n.pending; delivered = n.delivered; events = events };
  coords = h.coords;
  shards = h.shards;
  text = text;
}

-- the limit that an event passes before anybody acts
abbrev pub early_limit : Event → ℕ → ℕ → Option Which
early_limit e clients events = if begins e && nat_le most_transactions clients then Some Transactions else (if nat_le most_events events then Some Events else None)

-- why messages were not sent: but for want of memory they pass a limit
abbrev pub SendRefused : LimitFault → Option Which → Type 0
SendRefused LimitNoMemory limit = Unit {0}
SendRefused (AtLimit which) limit = limit ≡ Some which

-- why lines were not printed: but for want of memory their text passes its limit
abbrev pub Overprints : LimitFault → ℕ → Type 0
Overprints LimitNoMemory text = Unit {0}
Overprints (AtLimit which) text = (which ≡ TextBytes) × (nat_lt most_text_bytes text ≡ true)

-- who acts in the event, if anybody does
abbrev pub actor_if_any : List Envelope → Event → Option Party
actor_if_any sent (Lose n) = None
actor_if_any sent (Deliver n) = maybe (message sent n) None (λ e. Some e.to)
actor_if_any sent e = Some (actor sent e)

-- whether in the event a party does its part that is up
abbrev pub acts : Event → Bool
acts (Begin t) = false
acts (Lose n) = false
acts (Crash node) = false
acts (CrashAt node k pick) = false
acts (Restart node) = false
acts e = true

-- parties and disks did what the event asks of them, this was sent, and this printed
pub record EventActed (old new : Housed) (n : Network) (e : Event) (out : Posts) (own : List Line) : Type 0 where
  pub parties : new.parties ≡ parties_after (after_begin old.parties e) (course_deed (session_of old n 0 0).world e (disk_change (session_of old n 0 0) e).course)
  pub disks : disks_after old (disk_change (session_of old n 0 0) e) ≡ Some (new.coords, new.shards)
  pub sends : out ≡ sends_of (course_deed (session_of old n 0 0).world e (disk_change (session_of old n 0 0) e).course)
  pub prints : own ≡ printed_by (session_of old n 0 0).world e (disk_change (session_of old n 0 0) e).course
  pub whole : worn_out (course_deed (session_of old n 0 0).world e (disk_change (session_of old n 0 0) e).course) ≡ None

-- the deed of an event was refused: but for want of memory it is worn out
abbrev pub ActRefused : ActFault → Deed → Type 0
ActRefused f deed = Refuses f deed

-- the limit that an event passes with what it does
abbrev pub late_limit : Housed → Network → Event → Option Which
late_limit h n e =
    let d = course_deed (session_of h n 0 0).world e (disk_change (session_of h n 0 0) e).course in
    maybe (worn_out d) (too_much_sent (session_of h n 0 0).world e d) Some

abbrev pub network_of : World → Network
network_of w = record { sent = w.sent; bytes = w.bytes; pending = w.pending; delivered = w.delivered }

-- parties, disks and network did what the event asks of them, and this was printed
pub record Stepped (old new : Housed) (before after : Network) (e : Event) (own : List Line) : Type 0 where
  pub parties : new.parties ≡ (step (session_of old before 0 0).world e (disk_change (session_of old before 0 0) e).course).parties
  pub disks : disks_after old (disk_change (session_of old before 0 0) e) ≡ Some (new.coords, new.shards)
  pub network : after ≡ network_of (step (session_of old before 0 0).world e (disk_change (session_of old before 0 0) e).course)
  pub prints : own ≡ printed_by (session_of old before 0 0).world e (disk_change (session_of old before 0 0) e).course
  pub fits : late_limit old before e ≡ None
