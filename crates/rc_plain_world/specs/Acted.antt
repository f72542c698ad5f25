-- All that act, with the disks of the nodes, and what a deed leaves of them.
use Rattle.std.specs.Prelude.{◌≡◌, ℕ, ◌++◌, Bool, true, false, List, [], Option, Some, None, if◌then◌else◌, slice_set}
use Rattle.std.specs.Ordering.{nat_cmp}
use Rattle.rc_ids.specs.Tables.{Table, found, maybe}
use Rattle.rc_ids.specs.declared.names.Party.{Party}
use Rattle.rc_ids.specs.declared.names.Party.TheVariants.{Node, Client as ClientOf}
use Rattle.rc_ids.specs.Cluster.{Layout, is_dc}
use Rattle.rc_ids.specs.declared.names.NodeId.{NodeId}
use Rattle.rc_ids.specs.declared.names.NodeId.TheVariants.{Coord, Shard as ShardServer}
use Rattle.rc_body.specs.declared.entry.Entry.{Entry}
use Rattle.rc_msg.specs.declared.msg.Envelope.{Envelope}
use Rattle.rc_report.specs.declared.line.Line.{Line}
use Rattle.rc_report.specs.declared.fault.Which.TheVariants.{Version, Ballots}
use Rattle.rc_plain_client.specs.declared.fault.ClientFault.{ClientFault}
use Rattle.rc_plain_client.specs.declared.fault.ClientFault.TheVariants.{NoMemory as ClientNoMemory, KeyWornOut}
use Rattle.rc_plain_coord.specs.declared.fault.CoordFault.{CoordFault}
use Rattle.rc_plain_coord.specs.declared.fault.CoordFault.TheVariants.{NoMemory as CoordNoMemory, BallotsSpent as CoordSpent}
use Rattle.rc_runs.specs.declared.event.Event.{Event}
use Rattle.rc_runs.specs.declared.event.Event.TheVariants.{Read, Write, Commit, Cancel, Retry, Vanish, Deliver}
use Rattle.rc_protocol.specs.Messages.{Posts}
use Rattle.rc_protocol.specs.Client.{Client, ClientAct, client_stays, KeyWornOut as IsWornOut}
use Rattle.rc_protocol.specs.Acts.{ClientCause, Hears, Reads, Writes, Commits, Cancels, Retries, Vanishes, client_by_row, refusal}
use Rattle.rc_protocol.specs.Coordinator.{CoordAct, do_catch, new_volatile}
use Rattle.rc_protocol.specs.Shard.{ShardAct, do_catch as shard_catches, new_volatile as new_shard_volatile}
use Rattle.rc_protocol.specs.Nodes.{coord_index, shard_index, coord_started, shard_started, coord_stopped, shard_stopped}
use Rattle.rc_runs.specs.Votes.{ordered}
use Rattle.rc_runs.specs.World.{Parties, Deed, Idle, Course, along, parties_after, sends_of, lines_of, message, new_start, is_shard_of, coord_does, shard_does, client_does}
use Rattle.rc_runs.specs.Refusals.{worn_out}
use Rattle.rc_runs.specs.Devices.{Device, appended, powered, opened_once, armed}
use Rattle.rc_runs.specs.Session.{DiskChange, no_device, device_in, no_change, change_on, append_of, append_change}
use Rattle.rc_plain_world.specs.declared.fault.ActFault.{ActFault}
use Rattle.rc_plain_world.specs.declared.fault.ActFault.TheVariants.{NoMemory, VersionSpent, BallotsSpent}
use Rattle.rc_plain_world.specs.Hosts.{CoordSite, ShardSite, coord_nodes, coord_devices, shard_nodes, shard_devices, node_cause, coord_left, shard_left, course_for, device_for, record_left, sends_left, lines_left}

-- the parties, and the disks in the places of their nodes
pub record Housed : Type 0 where
  pub parties : Parties
  pub coords : List Device
  pub shards : List Device

abbrev pub fault_of_client : ClientFault → ActFault
fault_of_client ClientNoMemory = NoMemory
fault_of_client KeyWornOut = VersionSpent

abbrev pub fault_of_coord : CoordFault → ActFault
fault_of_coord CoordNoMemory = NoMemory
fault_of_coord CoordSpent = BallotsSpent

abbrev pub housed : Layout → List CoordSite → List ShardSite → Table ℕ Client → List (ℕ × List Entry) → Housed
housed c coords shards clients committed = record {
  parties = record { layout = c; start = new_start; coords = coord_nodes coords; shards = shard_nodes shards; clients = clients; committed = committed };
  coords = coord_devices coords;
  shards = shard_devices shards;
}

-- DISKS, none outside the world
abbrev pub disk_at : Housed → NodeId → Device
disk_at h (Coord d) = if is_dc h.parties.layout d then device_in h.coords (coord_index d) else no_device
disk_at h (ShardServer d s) = if is_shard_of h.parties.layout d s then device_in h.shards (shard_index h.parties.layout d s) else no_device

abbrev pub with_disk : Housed → NodeId → Device → List Device × List Device
with_disk h (Coord d) x = if is_dc h.parties.layout d then (slice_set h.coords (coord_index d) x, h.shards) else (h.coords, h.shards)
with_disk h (ShardServer d s) x = if is_shard_of h.parties.layout d s then (h.coords, slice_set h.shards (shard_index h.parties.layout d s) x) else (h.coords, h.shards)

-- what the deed asks of a disk
abbrev pub deed_work : Housed → Deed → DiskChange
deed_work h deed = maybe (append_of deed) no_change (λ a. append_change a.0 (appended (disk_at h a.0) a.1))

abbrev pub disks_after : Housed → DiskChange → Option (List Device × List Device)
disks_after h work = maybe work.node (Some (h.coords, h.shards)) (λ node. maybe work.device None (λ x. Some (with_disk h node x)))

-- the deed was done as its append went: parties and disks are as after it, and so is what was sent and printed
pub record Acted (deed : Deed) (work : DiskChange) (old new : Housed) (out : Posts) (lines printed : List Line) : Type 0 where
  pub parties : new.parties ≡ parties_after old.parties (along work.course deed)
  pub disks : disks_after old work ≡ Some (new.coords, new.shards)
  pub sends : out ≡ sends_of (along work.course deed)
  pub prints : printed ≡ lines ++ lines_of (along work.course deed)
  pub whole : worn_out (along work.course deed) ≡ None

-- a refusal of the deed: but for want of memory it is worn out
abbrev pub Refuses : ActFault → Deed → Type 0
Refuses NoMemory deed = Unit {0}
Refuses VersionSpent deed = (course : Course) → worn_out (along course deed) ≡ Some Version
Refuses BallotsSpent deed = (course : Course) → worn_out (along course deed) ≡ Some Ballots

-- NODES
-- an act of a node at its disk
pub record CoordDone (c : Layout) (d : ℕ) (act : CoordAct) (old new : CoordSite) (out : Posts) (lines printed : List Line) : Type 0 where
  pub node : new.node ≡ coord_left (course_for act.logs old.device) old.node act
  pub device : device_for act.logs old.device ≡ Some new.device
  pub sends : out ≡ sends_left (course_for act.logs old.device) act.logs act.sends
  pub prints : printed ≡ lines ++ lines_left (Coord d) (course_for act.logs old.device) act.logs
  pub whole : act.spent ≡ false

-- among all coordinators
pub record CoordDid (c : Layout) (d : ℕ) (act : CoordAct) (site : CoordSite) (old new : List CoordSite) (before after : List (ℕ × List Entry)) (out : Posts) (lines printed : List Line) : Type 0 where
  pub left : CoordSite
  pub done : CoordDone c d act site left out lines printed
  pub sites : new ≡ slice_set old (coord_index d) left
  pub committed : after ≡ ordered c (coord_nodes new) [] before (record_left (course_for act.logs site.device) act.logs)

-- a coordinator that is not up
pub record CoordIdle (old new : List CoordSite) (before after : List (ℕ × List Entry)) (out : Posts) (lines printed : List Line) : Type 0 where
  pub sites : new ≡ old
  pub committed : after ≡ before
  pub sends : out ≡ []
  pub prints : printed ≡ lines

-- a coordinator refuses an act for want of ballots alone, and then makes no record
abbrev pub Lacking : ActFault → CoordAct → Type 0
Lacking NoMemory act = Unit {0}
Lacking BallotsSpent act = (act.spent ≡ true) × (act.logs ≡ None)
Lacking VersionSpent act = ⊥

pub record ShardDone (d s : ℕ) (act : ShardAct) (old new : ShardSite) (out : Posts) (lines printed : List Line) : Type 0 where
  pub node : new.node ≡ shard_left (course_for act.logs old.device) old.node act
  pub device : device_for act.logs old.device ≡ Some new.device
  pub sends : out ≡ sends_left (course_for act.logs old.device) act.logs act.sends
  pub prints : printed ≡ lines ++ lines_left (ShardServer d s) (course_for act.logs old.device) act.logs

pub record ShardDid (d s place : ℕ) (act : ShardAct) (site : ShardSite) (old new : List ShardSite) (out : Posts) (lines printed : List Line) : Type 0 where
  pub left : ShardSite
  pub done : ShardDone d s act site left out lines printed
  pub sites : new ≡ slice_set old place left

pub record ShardIdle (old new : List ShardSite) (out : Posts) (lines printed : List Line) : Type 0 where
  pub sites : new ≡ old
  pub sends : out ≡ []
  pub prints : printed ≡ lines

-- STOPS, ARMED CUTS AND STARTS
-- what each asks of the node's disk
abbrev pub stop_work : Housed → NodeId → DiskChange
stop_work h node = change_on node (Some (powered (disk_at h node)))

abbrev pub arm_work : Housed → NodeId → ℕ → ℕ → DiskChange
arm_work h node k pick = change_on node (Some (armed (disk_at h node) k pick))

abbrev pub start_work : Housed → NodeId → DiskChange
start_work h node = change_on node (opened_once (disk_at h node))

-- what each leaves of the node with its disk
abbrev pub stopped_coord : CoordSite → CoordSite
stopped_coord x = record { node = coord_stopped x.node None; device = powered x.device }

abbrev pub armed_coord : ℕ → ℕ → CoordSite → CoordSite
armed_coord k pick x = record { node = x.node; device = armed x.device k pick }

abbrev pub stopped_shard : ShardSite → ShardSite
stopped_shard x = record { node = shard_stopped x.node None; device = powered x.device }

abbrev pub armed_shard : ℕ → ℕ → ShardSite → ShardSite
armed_shard k pick x = record { node = x.node; device = armed x.device k pick }

-- a coordinator started from its log, and asks the others for what it missed
pub record CoordStarts (c : Layout) (d : ℕ) (site : CoordSite) (old new : List CoordSite) (out : Posts) : Type 0 where
  pub left : CoordSite
  pub node : left.node ≡ coord_started site.node.log
  pub device : opened_once site.device ≡ Some left.device
  pub sites : new ≡ slice_set old (coord_index d) left
  pub sends : out ≡ (do_catch c d new_volatile).sends

pub record ShardStarts (d place : ℕ) (site : ShardSite) (old new : List ShardSite) (out : Posts) : Type 0 where
  pub left : ShardSite
  pub node : left.node ≡ shard_started site.node.log
  pub device : opened_once site.device ≡ Some left.device
  pub sites : new ≡ slice_set old place left
  pub sends : out ≡ (shard_catches d new_shard_volatile).sends

-- CLIENTS
-- what moves a client that takes part in the event
abbrev pub client_cause : List Envelope → Event → Option ClientCause
client_cause sent (Read u k) = Some (Reads k)
client_cause sent (Write u k value) = Some (Writes k value)
client_cause sent (Commit u) = Some Commits
client_cause sent (Cancel u k) = Some (Cancels k)
client_cause sent (Retry u) = Some Retries
client_cause sent (Vanish u) = Some Vanishes
client_cause sent (Deliver n) = maybe (message sent n) None (λ e. Some (Hears e.msg))
client_cause sent e = None

-- its part in the event, where it takes the command
abbrev pub client_part : Layout → ℕ → List Envelope → Event → Client → ClientAct
client_part c t sent e x = maybe (client_cause sent e) (client_stays x) (client_by_row c t x)

-- it takes the command
abbrev pub May : List Envelope → Event → Client → Type 0
May sent e x = maybe (client_cause sent e) None (refusal x) ≡ None

-- a client refuses for a version that is worn out alone
abbrev pub Wears : ActFault → ClientAct → Type 0
Wears NoMemory act = Unit {0}
Wears VersionSpent act = act.refused ≡ Some IsWornOut
Wears BallotsSpent act = ⊥

-- what the party does in the event, where it takes part
abbrev pub does_by : Parties → List Envelope → Event → Party → Deed
does_by p sent e (Node (Coord d)) = maybe (node_cause sent e) Idle (coord_does p d)
does_by p sent e (Node (ShardServer d s)) = maybe (node_cause sent e) Idle (shard_does p d s)
does_by p sent e (ClientOf t) = maybe (client_cause sent e) Idle (client_does p t)

-- the party takes what the event asks of it
abbrev pub MayAct : Parties → List Envelope → Party → Event → Type 0
MayAct p sent (Node node) e = Unit {0}
MayAct p sent (ClientOf t) e = (x : Client) → found nat_cmp p.clients t ≡ Some x → May sent e x

-- a command that an open client alone takes, or any, and that touches this key, if there is one
abbrev pub command_for : Bool → Option (List ℕ) → ClientCause
command_for true (Some k) = Reads k
command_for true None = Commits
command_for false key = Retries
