-- Nodes with their disks: what an act leaves of both, as its append went.
use Rattle.std.specs.Prelude.{◌≡◌, ℕ, true, List, [], ◌∷◌, map, Option, Some, None}
use Rattle.rc_ids.specs.Tables.{maybe}
use Rattle.rc_ids.specs.Cluster.{Layout}
use Rattle.rc_ids.specs.declared.names.NodeId.{NodeId}
use Rattle.rc_msg.specs.declared.msg.Envelope.{Envelope}
use Rattle.rc_record.specs.declared.record.Record.{Record}
use Rattle.rc_report.specs.declared.line.Line.{Line}
use Rattle.rc_report.specs.declared.line.Line.TheVariants.{Stopped}
use Rattle.rc_plain_coord.specs.declared.fault.CoordFault.{CoordFault}
use Rattle.rc_plain_coord.specs.declared.fault.CoordFault.TheVariants.{NoMemory as CoordNoMemory, BallotsSpent}
use Rattle.rc_runs.specs.declared.event.Event.{Event}
use Rattle.rc_runs.specs.declared.event.Event.TheVariants.{Take, Catch, Deliver}
use Rattle.rc_protocol.specs.Messages.{Posts}
use Rattle.rc_protocol.specs.Coordinator.{CoordAct, coord_stays}
use Rattle.rc_protocol.specs.Shard.{ShardAct, shard_stays}
use Rattle.rc_protocol.specs.Acts.{NodeCause, Came, Catches, Takes, coord_act, shard_act}
use Rattle.rc_protocol.specs.Nodes.{CoordNode, ShardNode, coord_after, shard_after, coord_stopped, shard_stopped}
use Rattle.rc_runs.specs.World.{Course, Goes, Stops, kept_record, message}
use Rattle.rc_runs.specs.Devices.{Device, appended, course_of, record_length}
use Rattle.rc_runs.specs.Session.{after_append}

pub record CoordSite : Type 0 where
  pub node : CoordNode
  pub device : Device

-- HOW AN ACT'S APPEND GOES on a disk, where it makes a record, and the disk after it
abbrev pub course_for : Option Record → Device → Course
course_for None x = Goes
course_for (Some r) x = course_of (appended x (record_length r)).0

abbrev pub device_for : Option Record → Device → Option Device
device_for None x = Some x
device_for (Some r) x = let done = appended x (record_length r) in after_append done.0 done.1

-- the record that the log keeps, what is sent, and what is printed
abbrev pub record_left : Course → Option Record → Option Record
record_left Goes logs = logs
record_left (Stops kept) logs = maybe logs None (kept_record kept)

abbrev pub sends_left : Course → Option Record → Posts → Posts
sends_left Goes logs sends = sends
sends_left (Stops kept) logs sends = maybe logs sends (λ _. [])

abbrev pub lines_left : NodeId → Course → Option Record → List Line
lines_left node Goes logs = []
lines_left node (Stops kept) logs = maybe logs [] (λ _. Stopped node ∷ [])

-- WHAT MOVES A NODE that takes part in the event
abbrev pub node_cause : List Envelope → Event → Option NodeCause
node_cause sent (Take d t) = Some (Takes t)
node_cause sent (Catch node) = Some Catches
node_cause sent (Deliver n) = maybe (message sent n) None (λ e. Some (Came e.from e.msg))
node_cause sent e = None

-- COORDINATORS
-- its part in the event
abbrev pub coord_part : Layout → ℕ → List Envelope → Event → CoordNode → CoordAct
coord_part c d sent e x = maybe (node_cause sent e) (coord_stays x.volatile) (coord_act c d x.durable x.volatile)

-- the coordinator after the act
abbrev pub coord_left : Course → CoordNode → CoordAct → CoordNode
coord_left Goes x act = coord_after x act
coord_left (Stops kept) x act = maybe act.logs (coord_after x act) (λ r. coord_stopped x (kept_record kept r))

-- a coordinator and its disk after the act
pub record CoordWent (act : CoordAct) (old new : CoordSite) (course : Course) : Type 0 where
  pub went : course ≡ course_for act.logs old.device
  pub device : device_for act.logs old.device ≡ Some new.device
  pub node : new.node ≡ coord_left course old.node act
  pub ready : old.device.is_open ≡ true → new.device.is_open ≡ true

abbrev pub coord_nodes : List CoordSite → List CoordNode
coord_nodes sites = map (λ (s : CoordSite). s.node) sites

abbrev pub coord_devices : List CoordSite → List Device
coord_devices sites = map (λ (s : CoordSite). s.device) sites

-- the coordinator refuses the act: but for want of memory a ballot lacks, and there is no record
abbrev pub Lacks : CoordFault → CoordAct → Type 0
Lacks CoordNoMemory act = Unit {0}
Lacks BallotsSpent act = (act.spent ≡ true) × (act.logs ≡ None)

-- SHARD SERVERS
pub record ShardSite : Type 0 where
  pub node : ShardNode
  pub device : Device

-- its part in the event
abbrev pub shard_part : Layout → ℕ → ℕ → List Envelope → Event → ShardNode → ShardAct
shard_part c d s sent e x = maybe (node_cause sent e) (shard_stays x.volatile) (shard_act c d s x.durable x.volatile)

-- the shard server after the act
abbrev pub shard_left : Course → ShardNode → ShardAct → ShardNode
shard_left Goes x act = shard_after x act
shard_left (Stops kept) x act = maybe act.logs (shard_after x act) (λ r. shard_stopped x (kept_record kept r))

-- a shard server and its disk after the act
pub record ShardWent (act : ShardAct) (old new : ShardSite) (course : Course) : Type 0 where
  pub went : course ≡ course_for act.logs old.device
  pub device : device_for act.logs old.device ≡ Some new.device
  pub node : new.node ≡ shard_left course old.node act
  pub ready : old.device.is_open ≡ true → new.device.is_open ≡ true

abbrev pub shard_nodes : List ShardSite → List ShardNode
shard_nodes sites = map (λ (s : ShardSite). s.node) sites

abbrev pub shard_devices : List ShardSite → List Device
shard_devices sites = map (λ (s : ShardSite). s.device) sites
