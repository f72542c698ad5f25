-- A node as the run has it, with its device.
use Rattle.std.specs.Prelude.{Bool, true, false, List, Option, Some, if◌then◌else◌}
use Rattle.rc_ids.specs.Tables.{maybe}
use Rattle.rc_record.specs.declared.record.Record.{Record}
use Rattle.rc_protocol.specs.Nodes.{CoordNode, ShardNode, logged}
use Rattle.rc_runs.specs.World.{Course, Goes}
use Rattle.rc_runs.specs.Devices.{Device, appended, course_of, record_length}
use Rattle.rc_runs.specs.Session.{after_append}
use Rattle.rc_host.specs.AnyNode.{NodeDurable, NodeVolatile, OfShard, OfCoord, OfShardNow, OfCoordNow, AnyAct, new_volatile}

-- whether it is up, its log without the heads, and its states
pub record Standing : Type 0 where
  pub up : Bool
  pub log : List Record
  pub durable : NodeDurable
  pub volatile : NodeVolatile

abbrev pub coord_standing : CoordNode → Standing
coord_standing x = record { up = x.up; log = x.log; durable = OfCoord x.durable; volatile = OfCoordNow x.volatile }

abbrev pub shard_standing : ShardNode → Standing
shard_standing x = record { up = x.up; log = x.log; durable = OfShard x.durable; volatile = OfShardNow x.volatile }

-- after an act, and after a stop inside it that kept its record or not
abbrev pub after_act : Standing → AnyAct → Standing
after_act x act = record x { log = logged x.log act.logs; durable = act.durable; volatile = act.volatile }

abbrev pub after_stop : Standing → AnyAct → Bool → Standing
after_stop x act kept = record {
  up = false;
  log = if kept then logged x.log act.logs else x.log;
  durable = if kept then act.durable else x.durable;
  volatile = new_volatile x.durable;
}

-- after a stop between two acts
abbrev pub stopped : Standing → Standing
stopped x = record x { up = false; volatile = new_volatile x.durable }

-- a node that is down starts again
abbrev pub started_again : Standing → Standing
started_again x = record x { up = true; volatile = new_volatile x.durable }

-- what the device makes of an act's append: the course of the event, and the device after it, or none where the log could not be opened
abbrev pub course_on : Device → AnyAct → Course
course_on d act = maybe act.logs Goes (λ r. course_of (appended d (record_length r)).0)

abbrev pub device_after : Device → AnyAct → Option Device
device_after d act = maybe act.logs (Some d) (λ r. let done = appended d (record_length r) in after_append done.0 done.1)
