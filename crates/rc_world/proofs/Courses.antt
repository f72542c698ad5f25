-- How the append of an act's record goes on a device, and what it leaves of what is sent and printed.
use Rattle.std.specs.Prelude.{List, [], ◌∷◌, Option, None, Some}
use Rattle.rc_ids.specs.Tables.{maybe}
use Rattle.rc_ids.specs.declared.names.NodeId.{NodeId}
use Rattle.rc_record.specs.declared.record.Record.{Record}
use Rattle.rc_report.specs.declared.line.Line.{Line}
use Rattle.rc_report.specs.declared.line.Line.TheVariants.{Stopped}
use Rattle.rc_protocol.specs.Messages.{Posts}
use Rattle.rc_runs.specs.World.{Course, Goes, Stops, kept_record}
use Rattle.rc_runs.specs.Devices.{Device, appended, course_of, record_length}
use Rattle.rc_runs.specs.Session.{after_append}

-- how the append of an act's record goes on the device, and the device after it
abbrev pub course_for : Option Record → Device → Course
course_for logs v = maybe logs Goes (λ r. course_of (appended v (record_length r)).0)

abbrev pub device_for : Option Record → Device → Option Device
device_for logs v = maybe logs (Some v) (λ r. let done = appended v (record_length r) in after_append done.0 done.1)

-- the record that stays in the log, what is sent, and what is printed
abbrev pub record_left : Option Record → Course → Option Record
record_left logs Goes = logs
record_left logs (Stops kept) = maybe logs None (kept_record kept)

abbrev pub sends_left : Option Record → Posts → Course → Posts
sends_left logs sends Goes = sends
sends_left logs sends (Stops kept) = maybe logs sends (λ _. [])

abbrev pub lines_left : NodeId → Option Record → Course → List Line
lines_left node logs Goes = []
lines_left node logs (Stops kept) = maybe logs [] (λ _. Stopped node ∷ [])
