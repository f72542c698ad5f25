-- A script's run: a world with the disks of its nodes, and how many bytes of text it gave. Events happen on it one after another; each is
-- refused, or done with the course that the node's disk gives its append.
use Rattle.std.specs.Prelude.{ℕ, ◌+◌, ◌^◌, List, [], Option, Some, None, Result, Ok, Err, nat_lt, if◌then◌else◌, length, slice_get, slice_set, sum_by}
use Rattle.rc_ids.specs.Tables.{maybe}
use Rattle.rc_ids.specs.Cluster.{is_dc}
use Rattle.rc_ids.specs.declared.names.NodeId.{NodeId}
use Rattle.rc_ids.specs.declared.names.NodeId.TheVariants.{Coord, Shard as ShardServer}
use Rattle.rc_report.specs.declared.fault.Wrong.{Wrong}
use Rattle.rc_report.specs.declared.fault.Which.{Which}
use Rattle.rc_report.specs.declared.fault.Which.TheVariants.{TextBytes}
use Rattle.rc_report.specs.declared.fault.LogFault.{LogFault}
use Rattle.rc_report.specs.declared.line.Line.{Line}
use Rattle.rc_report.specs.Lines.{line_text}
use Rattle.rc_runs.specs.declared.event.Event.{Event}
use Rattle.rc_runs.specs.declared.event.Event.TheVariants.{Crash, CrashAt, Restart}
use Rattle.rc_protocol.specs.Nodes.{coord_index, shard_index}
use Rattle.rc_runs.specs.World.{World, Deed, ByCoord, ByShard, Course, Goes, is_shard_of, deed, step, printed}
use Rattle.rc_runs.specs.Refusals.{wrong, limit}
use Rattle.rc_runs.specs.Devices.{Device, Fate, Made, new_device, appended, course_of, record_length, powered, opened, opened_once, armed}

pub record Session : Type 0 where
  pub world : World
  pub coords : List Device  -- in the places of their nodes
  pub shards : List Device
  pub text : ℕ

-- why a script ends early
pub data Halt : Type 0 where
  Misnamed : Wrong → Halt
  Limited : Which → Halt
  -- a log is damaged, has a record that is refused, or is of another world
  LogRefused : NodeId → LogFault → Halt
  -- a disk could not be had, or a call of its creation, its head or its opening failed
  FarmFails : Halt

-- DISKS
abbrev pub no_device : Device
no_device = new_device [] []

abbrev pub device_in : List Device → ℕ → Device
device_in devices i = maybe (slice_get devices i) no_device (λ x. x)

-- none outside the world
abbrev pub device_of : Session → NodeId → Device
device_of z (Coord d) = if is_dc z.world.parties.layout d then device_in z.coords (coord_index d) else no_device
device_of z (ShardServer d sh) = if is_shard_of z.world.parties.layout d sh then device_in z.shards (shard_index z.world.parties.layout d sh) else no_device

abbrev pub with_device : Session → NodeId → Device → Session
with_device z (Coord d) x = if is_dc z.world.parties.layout d then record z { coords = slice_set z.coords (coord_index d) x } else z
with_device z (ShardServer d sh) x = if is_shard_of z.world.parties.layout d sh then record z { shards = slice_set z.shards (shard_index z.world.parties.layout d sh) x } else z

-- the node that adds a record in the deed, and the record's length
abbrev pub append_of : Deed → Option (NodeId × ℕ)
append_of (ByCoord d x act) = maybe act.logs None (λ r. Some (Coord d, record_length r))
append_of (ByShard d sh x act) = maybe act.logs None (λ r. Some (ShardServer d sh, record_length r))
append_of _ = None

-- what an event asks of a disk: the course of its append, and the node whose disk changes, with the disk after it or none where its
-- log could not be opened
pub record DiskChange : Type 0 where
  pub course : Course
  pub node : Option NodeId
  pub device : Option Device

abbrev pub no_change : DiskChange
no_change = record { course = Goes; node = None; device = None }

abbrev pub change_on : NodeId → Option Device → DiskChange
change_on node x = record { course = Goes; node = Some node; device = x }

-- where the node stops inside an event its log is opened at once
abbrev pub after_append : Fate → Device → Option Device
after_append Made x = Some x
after_append fate x = opened (powered x)

abbrev pub append_change : NodeId → Fate × Device → DiskChange
append_change node done = record { course = course_of done.0; node = Some node; device = after_append done.0 done.1 }

abbrev pub disk_change : Session → Event → DiskChange
disk_change z (Crash node) = change_on node (Some (powered (device_of z node)))
disk_change z (CrashAt node k pick) = change_on node (Some (armed (device_of z node) k pick))
disk_change z (Restart node) = change_on node (opened_once (device_of z node))
disk_change z e = maybe (append_of (deed z.world.parties z.world.sent e)) no_change (λ a. append_change a.0 (appended (device_of z a.0) a.1))

abbrev pub with_change : Session → DiskChange → Option Session
with_change z change = maybe change.node (Some z) (λ node. maybe change.device None (λ x. Some (with_device z node x)))

-- TEXT
abbrev pub most_text_bytes : ℕ
most_text_bytes = 2 ^ 30

abbrev pub text_bytes : List Line → ℕ
text_bytes lines = sum_by (λ (line : Line). length (line_text line)) lines

-- the session after, and the lines printed
abbrev pub Happened : Type 0
Happened = Result (Session × List Line) Halt

abbrev pub with_text : Session → ℕ → Session
with_text z text = record z { text = text }

abbrev pub prints : Session → List Line → Happened
prints z lines =
    if nat_lt most_text_bytes (z.text + text_bytes lines) then Err (Limited TextBytes)
    else Ok (with_text z (z.text + text_bytes lines), lines)

-- AN EVENT: refused for a wrong name, then for a limit, else done
abbrev pub with_world : Session → World → Session
with_world z w = record z { world = w }

abbrev pub happens_with : Session → Event → DiskChange → Happened
happens_with z e change = maybe (with_change z change) (Err FarmFails) (λ y. prints (with_world y (step z.world e change.course)) (printed z.world e change.course))

abbrev pub happens_within_limits : Session → Event → DiskChange → Happened
happens_within_limits z e change = maybe (limit z.world e change.course) (happens_with z e change) (λ which. Err (Limited which))

abbrev pub happens : Session → Event → Happened
happens z e = maybe (wrong z.world e) (happens_within_limits z e (disk_change z e)) (λ name. Err (Misnamed name))
