-- How a world refuses an event, as the session does.
use Rattle.std.specs.Prelude.{◌≡◌, None, Some, Err}
use Rattle.rc_runs.specs.declared.event.Event.{Event}
use Rattle.rc_runs.specs.Refusals.{wrong}
use Rattle.rc_runs.specs.Session.{Session, Misnamed, Limited, disk_change, with_change, happens}
use Rattle.rc_begin.specs.declared.fault.WorldFault.{WorldFault}
use Rattle.rc_begin.specs.declared.fault.WorldFault.TheVariants.{NoMemory, Farm, Log, Limit, Naming}

-- the fault is the limit that the event meets
abbrev pub LimitIs : Session → Event → WorldFault → Type 0
LimitIs z e NoMemory = ⊥
LimitIs z e Farm = ⊥
LimitIs z e (Log node fault) = ⊥
LimitIs z e (Limit which) = happens z e ≡ Err (Limited which)
LimitIs z e (Naming name) = ⊥

-- the fault is what is named wrongly, or else the limit that the event meets
abbrev pub RefusalIs : Session → Event → WorldFault → Type 0
RefusalIs z e NoMemory = ⊥
RefusalIs z e Farm = ⊥
RefusalIs z e (Log node fault) = ⊥
RefusalIs z e (Limit which) = happens z e ≡ Err (Limited which)
RefusalIs z e (Naming name) = wrong z.world e ≡ Some name

-- why an event does not happen: there was no memory, for which the session has no cause; or a disk failed as the log of the event's node was to
-- be opened; or it is the limit that the session names, or what it finds named wrongly
abbrev pub CauseIs : Session → Event → WorldFault → Type 0
CauseIs z e NoMemory = Unit {0}
CauseIs z e Farm = with_change z (disk_change z e) ≡ None
CauseIs z e (Log node fault) = ⊥
CauseIs z e (Limit which) = happens z e ≡ Err (Limited which)
CauseIs z e (Naming name) = happens z e ≡ Err (Misnamed name)
