-- Why a node did not act in an event.
use Rattle.std.specs.Prelude.{◌≡◌, Bool, List, [], None, Some}
use Rattle.rc_runs.specs.Devices.{Device}
use Rattle.rc_report.specs.declared.fault.Which.TheVariants.{Ballots}
use Rattle.rc_runs.specs.declared.event.Event.{Event}
use Rattle.rc_runs.specs.World.{Stops, course_deed, sends_of}
use Rattle.rc_runs.specs.Refusals.{worn_out}
use Rattle.rc_runs.specs.Session.{Session, disk_change, with_change}
use Rattle.rc_begin.specs.declared.fault.WorldFault.{WorldFault}
use Rattle.rc_begin.specs.declared.fault.WorldFault.TheVariants.{NoMemory, Farm, Log, Limit, Naming}

-- for want of memory: all is as before, or the node stopped inside the event and its log could not be read
pub data Unacted (z : Session) (e : Event) (Before : Type 0) : Type 0 where
  AsBefore : Before → Unacted z e Before
  StoppedInside : (kept : Bool) → (disk_change z e).course ≡ Stops kept → Unacted z e Before

-- the node stopped inside the event, and its disk failed as its log was to be opened
pub record FarmFailed (z : Session) (e : Event) : Type 0 where
  pub sends : sends_of (course_deed z.world e (disk_change z e).course) ≡ []
  pub whole : worn_out (course_deed z.world e (disk_change z e).course) ≡ None
  pub disks : with_change z (disk_change z e) ≡ None

-- the fault of a node that is to act in the event
abbrev pub ActRefused : Session → Event → Type 0 → WorldFault → Type 0
ActRefused z e Before NoMemory = Unacted z e Before
ActRefused z e Before Farm = FarmFailed z e
ActRefused z e Before (Limit which) = (which ≡ Ballots) × (worn_out (course_deed z.world e (disk_change z e).course) ≡ Some Ballots)
ActRefused z e Before (Log node fault) = ⊥
ActRefused z e Before (Naming name) = ⊥

-- for want of memory a node that was to start is down still; its disk may have been synced and read
pub record StillDown (Hosts : List Device → Type 0) : Type 0 where
  pub devices : List Device
  pub hosts : Hosts devices

-- the fault of a node that is to start in the event: its disk failed as its log was to be opened, or, where its kind's nodes are on these disks afterwards
abbrev pub StartRefused : Session → Event → (List Device → Type 0) → WorldFault → Type 0
StartRefused z e Hosts NoMemory = StillDown Hosts
StartRefused z e Hosts Farm = with_change z (disk_change z e) ≡ None
StartRefused z e Hosts (Limit which) = ⊥
StartRefused z e Hosts (Log node fault) = ⊥
StartRefused z e Hosts (Naming name) = ⊥
