-- What an event makes of a session, but for the count of its text.
use Rattle.std.specs.Prelude.{◌≡◌, ℕ, ◌+◌, ◌&&◌, nat_lt, nat_le, List, [], length, Option, Some, None, if◌then◌else◌}
use Rattle.rc_ids.specs.Tables.{maybe}
use Rattle.rc_ids.specs.declared.names.NodeId.{NodeId}
use Rattle.rc_ids.specs.declared.names.NodeId.TheVariants.{Coord, Shard as ShardServer}
use Rattle.rc_report.specs.declared.line.Line.{Line}
use Rattle.rc_report.specs.declared.fault.Which.{Which}
use Rattle.rc_report.specs.declared.fault.Which.TheVariants.{Transactions, Events, Messages, MessageBytes}
use Rattle.rc_runs.specs.declared.event.Event.{Event}
use Rattle.rc_protocol.specs.Messages.{Posts}
use Rattle.rc_protocol.specs.Acts.{NodeCause}
use Rattle.rc_runs.specs.World.{World, Parties, Deed, deed, coord_does, shard_does, restart_lines, actor, after_begin, at_deed, with_parties, posted, envelopes, bytes_of, course_deed, parties_after, sends_of, step, printed}
use Rattle.rc_runs.specs.Refusals.{wrong, limit, worn_out, begins, most_transactions, most_events, most_messages, most_message_bytes}
use Rattle.rc_runs.specs.Devices.{Device, appended}
use Rattle.rc_runs.specs.Session.{Session, DiskChange, device_of, no_change, append_of, append_change, disk_change, with_change, with_world}

-- the session with these disks
abbrev pub with_disks : Session → List Device → List Device → Session
with_disks z coords shards = record { world = z.world; coords = coords; shards = shards; text = z.text }

-- what the deed asks of a disk
abbrev pub deed_change : Session → Deed → DiskChange
deed_change z dd = maybe (append_of dd) no_change (λ a. append_change a.0 (appended (device_of z a.0) a.1))

-- a node does what moves it
abbrev pub node_does : Parties → NodeId → NodeCause → Deed
node_does w (Coord d) cause = coord_does w d cause
node_does w (ShardServer d sh) cause = shard_does w d sh cause

-- the event is one in which a party does a deed
pub record IsDone (z : Session) (e : Event) : Type 0 where
  pub change : disk_change z e ≡ deed_change z (deed z.world.parties z.world.sent e)
  pub begins : after_begin z.world.parties e ≡ z.world.parties
  pub starts : restart_lines e ≡ []

-- parties and disks did what the event asks of them, this was sent, and this printed
pub record EventActed (z : Session) (e : Event) (p : Parties) (coords shards : List Device) (out : Posts) (own : List Line) : Type 0 where
  pub parties : p ≡ parties_after (after_begin z.world.parties e) (course_deed z.world e (disk_change z e).course)
  pub disks : with_change z (disk_change z e) ≡ Some (with_disks z coords shards)
  pub sends : out ≡ sends_of (course_deed z.world e (disk_change z e).course)
  pub prints : own ≡ printed z.world e (disk_change z e).course
  pub whole : worn_out (course_deed z.world e (disk_change z e).course) ≡ None

-- the limit that an event passes before anybody acts
abbrev pub event_limit : ℕ → Option Which
event_limit events = if nat_le most_events events then Some Events else None

abbrev pub early_limit : World → Event → Option Which
early_limit w e = if begins e && nat_le most_transactions (length w.parties.clients) then Some Transactions else event_limit w.events

-- the limit that these messages of the event would pass
abbrev pub sent_limit : World → Event → Posts → Option Which
sent_limit w e out =
    if nat_lt most_messages (length w.sent + length out) then Some Messages
    else (if nat_lt most_message_bytes (w.bytes + bytes_of (envelopes (actor w.sent e) out)) then Some MessageBytes else None)

-- the session after an event that made these parties and disks, and sent this
abbrev pub world_after : World → Event → Parties → Posts → World
world_after w e p out = posted (with_parties (at_deed w e) p) (actor w.sent e) out

abbrev pub session_after : Session → Event → Parties → List Device → List Device → Posts → Session
session_after z e p coords shards out = record { world = world_after z.world e p out; coords = coords; shards = shards; text = z.text }

-- the event happened, and this was printed
pub record Stepped (z : Session) (e : Event) (y : Session) (own : List Line) : Type 0 where
  pub named : wrong z.world e ≡ None
  pub fits : limit z.world e (disk_change z e).course ≡ None
  pub coords : List Device
  pub shards : List Device
  pub disks : with_change z (disk_change z e) ≡ Some (with_disks z coords shards)
  pub after : y ≡ with_world (with_disks z coords shards) (step z.world e (disk_change z e).course)
  pub prints : own ≡ printed z.world e (disk_change z e).course
