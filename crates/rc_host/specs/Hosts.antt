-- Hosts of nodes of a run, on disks that tell their calls.
use Rattle.std.specs.Prelude.{◌≡◌, ◌+◌, ◌++◌, ℕ, nat_lt, Bool, true, false, List, [], ◌∷◌, length, Option, None, Some, Ok, IfSome}
use Rattle.rc_ids.specs.Cluster.{Layout}
use Rattle.rc_ids.specs.Tables.{maybe}
use Rattle.rc_ids.specs.declared.names.NodeId.{NodeId}
use Rattle.rc_disk.specs.declared.power.Power.{Power}
use Rattle.rc_disk.specs.declared.power.Power.TheVariants.{On}
use Rattle.rc_disk.specs.Calls.{Told, read_bytes, powered as powered_disk}
use Rattle.rc_disk.specs.Places.{Start}
use Rattle.rc_log.specs.Journals.{State}
use Rattle.rc_log.specs.Records.{records, size_of}
use Rattle.rc_msg.specs.Outboxes.{Outbox}
use Rattle.rc_msg.specs.Posts.{posted_all}
use Rattle.rc_record.specs.declared.record.Record.{Record}
use Rattle.rc_record.specs.Spelling.{record_bytes}
use Rattle.rc_runs.specs.World.{Course as CourseOfRun, Goes as GoesOn, Stops as StopsInside}
use Rattle.rc_runs.specs.Devices.{Device, opened, powered, read_once, called}
use Rattle.rc_runs.specs.Stored.{records_of}
use Rattle.rc_devices.specs.Disks.{IsKept, IsDisk, IsLog}
use Rattle.rc_host.specs.AnyNode.{AnyNode, AnyAct, NodeDurable, new_volatile}
use Rattle.rc_host.specs.Standing.{Standing, after_act, after_stop, course_on, device_after}
use Rattle.rc_host.specs.declared.host.Host.{Host}
use Rattle.rc_host.specs.declared.host.Host.TheVariants.{Up, Opened, Down, Lent}
use Rattle.rc_host.specs.declared.host.Course.{Course}
use Rattle.rc_host.specs.declared.host.Course.TheVariants.{Goes, Stops}
use Rattle.rc_host.specs.declared.host.HostFault.{HostFault}
use Rattle.rc_host.specs.declared.host.HostFault.TheVariants.{NoMemory, BallotsSpent, DiskFailed, Damaged, Lost}

-- what nodes, journals and disks of these types show
pub record Sight (N J D : Type 0) : Type 0 where
  pub seen : N → AnyNode J
  pub state : J → State
  pub told : D → Option Told
  pub content : D → Option (List ℕ)
  pub power : D → Power

abbrev pub sight : {N J D : Type 0} → (N → AnyNode J) → (J → State) → (D → Option Told) → (D → Option (List ℕ)) → (D → Power) → Sight N J D
sight seen state told content power = record { seen = seen; state = state; told = told; content = content; power = power }

-- where a run begins and ends: what the disk had at the start, what it tells at the end, and what a log gives back to the node
pub record Run : Type 0 where
  pub cluster : Layout
  pub node : NodeId
  pub begun : Start
  pub ended : Told

-- these records are the node's log, and give its durable state back
pub record Holds (gives : List (List ℕ) → NodeDurable → Type 0) (blobs : List (List ℕ)) (x : Standing) : Type 0 where
  pub log : records_of blobs ≡ x.log
  pub back : gives blobs x.durable

-- a log on a disk that is the device, with these records
pub record HasLog (gives : List (List ℕ) → NodeDurable → Type 0) (run : Run) (log : State) (blobs : List (List ℕ)) (x : Standing) (d : Device) : Type 0 where
  pub has : log.records ≡ Some blobs
  pub count : log.count ≡ length blobs
  pub size : log.size ≡ size_of blobs
  pub holds : Holds gives blobs x
  pub device : IsLog run.begun run.ended log d
  pub sound : log.failed ≡ false

-- a node that is up
pub record IsUp {N J D : Type 0} (s : Sight N J D) (gives : List (List ℕ) → NodeDurable → Type 0) (run : Run) (node : N) (x : Standing) (d : Device) : Type 0 where
  pub up : x.up ≡ true
  pub cluster : (s.seen node).cluster ≡ run.cluster
  pub name : (s.seen node).name ≡ run.node
  pub durable : (s.seen node).durable ≡ x.durable
  pub volatile : (s.seen node).volatile ≡ x.volatile
  pub stopped : (s.seen node).stopped ≡ false
  pub blobs : List (List ℕ)
  pub log : HasLog gives run (s.state (s.seen node).journal) blobs x d

-- a node that is down, and whose log was opened since
pub record IsOpened {J : Type 0} (state : J → State) (gives : List (List ℕ) → NodeDurable → Type 0) (run : Run) (journal : J) (blobs : List (List ℕ)) (x : Standing) (d : Device) : Type 0 where
  pub down : x.up ≡ false
  pub lost : x.volatile ≡ new_volatile x.durable
  pub log : HasLog gives run (state journal) blobs x d
  pub is_open : d.is_open ≡ true

-- a node that is down
pub record IsDown {D : Type 0} (told_by : D → Option Told) (content_of : D → Option (List ℕ)) (power_of : D → Power) (gives : List (List ℕ) → NodeDurable → Type 0) (run : Run) (disk : D) (x : Standing) (d : Device) : Type 0 where
  pub down : x.up ≡ false
  pub lost : x.volatile ≡ new_volatile x.durable
  pub bytes : List ℕ
  pub content : content_of disk ≡ Some bytes
  pub blobs : List (List ℕ)
  pub has : records bytes ≡ Ok blobs
  pub holds : Holds gives blobs x
  pub told : Told
  pub tells : told_by disk ≡ Some told
  pub on : power_of disk ≡ On
  pub device : IsDisk run.begun run.ended told On d
  pub offset : size_of blobs ≡ d.offset
  pub shut : d.is_open ≡ false

-- THE HOST of a node of the run, on a disk that is the device
abbrev pub IsHost : {N J D : Type 0} → Sight N J D → (List (List ℕ) → NodeDurable → Type 0) → Run → Host N J D → Standing → Device → Type 0
IsHost s gives run (Up node) x d = IsUp s gives run node x d
IsHost s gives run (Opened journal blobs) x d = IsOpened s.state gives run journal blobs x d
IsHost s gives run (Down disk) x d = IsDown s.told s.content s.power gives run disk x d
IsHost s gives run Lent x d = ⊥

abbrev pub IfUp : {N J D : Type 0} → Host N J D → (N → Type 0) → Type 0
IfUp (Up node) P = P node
IfUp _ P = Unit {0}

abbrev pub is_up : {N J D : Type 0} → Host N J D → Bool
is_up (Up node) = true
is_up _ = false

-- between two events a host is there
abbrev pub IsThere : {N J D : Type 0} → Host N J D → Type 0
IsThere Lent = ⊥
IsThere _ = Unit {0}

-- what the host's disk tells is told at the end still
abbrev pub IsToldBy : {N J D : Type 0} → Sight N J D → Host N J D → Told → Type 0
IsToldBy s (Up node) ended = IfSome (s.state (s.seen node).journal).told (λ t. IsKept t ended)
IsToldBy s (Opened journal blobs) ended = IfSome (s.state journal).told (λ t. IsKept t ended)
IsToldBy s (Down disk) ended = IfSome (s.told disk) (λ t. IsKept t ended)
IsToldBy s Lent ended = ⊥

-- HOW AN EVENT WENT
abbrev pub course_in : Course → CourseOfRun
course_in Goes = GoesOn
course_in (Stops kept) = StopsInside kept

abbrev pub standing_after : Standing → AnyAct → Course → Standing
standing_after x act Goes = after_act x act
standing_after x act (Stops kept) = after_stop x act kept

abbrev pub posts_after : Outbox → AnyAct → Course → Outbox
posts_after out act Goes = posted_all out act.sends
posts_after out act (Stops kept) = out

-- where the node stopped and its record was kept, that is the last of its log
abbrev pub KeptOn : {N J D : Type 0} → Host N J D → AnyAct → Course → Type 0
KeptOn (Opened journal blobs) act (Stops true) = IfSome act.logs (λ r. (front : List (List ℕ)) × (blobs ≡ front ++ record_bytes r ∷ []))
KeptOn new act course = Unit {0}

-- the act of a node that was up: its course is the device's, its host is that of the node after it, and its messages were posted unless it stopped
pub record Went {N J D : Type 0} (s : Sight N J D) (gives : List (List ℕ) → NodeDurable → Type 0) (run : Run) (course : Course) (new : Host N J D) (before after : Outbox) (x : Standing) (d : Device) (act : AnyAct) : Type 0 where
  pub left : act.spent ≡ false
  pub course_is : course_on d act ≡ course_in course
  pub device : Device
  pub device_is : device_after d act ≡ Some device
  pub host : IsHost s gives run new (standing_after x act course) device
  pub sends : after ≡ posts_after before act course
  pub kept : KeptOn new act course

-- the node stops inside the act
pub record StopsOn (d : Device) (act : AnyAct) : Type 0 where
  pub kept : Bool
  pub comes : course_on d act ≡ StopsInside kept

-- how many records a node that is up counts in its journal
abbrev pub count_in : {N J D : Type 0} → Sight N J D → Host N J D → ℕ
count_in s (Up node) = (s.state (s.seen node).journal).count
count_in s _ = 0

-- a node that goes on counts the record of its act, if it made one
abbrev pub CountsOn : {N J D : Type 0} → Sight N J D → Host N J D → Host N J D → AnyAct → Type 0
CountsOn s old (Up node) act = count_in s (Up node) ≡ count_in s old + maybe act.logs 0 (λ _. 1)
CountsOn s old new act = Unit {0}

-- why an act was not done, and what that leaves. A host that is lost stopped inside it, and is good for nothing but its disk
abbrev pub Stayed : {N J D : Type 0} → Sight N J D → (List (List ℕ) → NodeDurable → Type 0) → Run → HostFault → Host N J D → Outbox → Outbox → Standing → Device → AnyAct → Type 0
Stayed s gives run NoMemory new before after x d act = IsHost s gives run new x d × (after ≡ before)
Stayed s gives run BallotsSpent new before after x d act = (act.spent ≡ true) × IsHost s gives run new x d × (after ≡ before)
Stayed s gives run DiskFailed new before after x d act = StopsOn d act × (device_after d act ≡ None) × (after ≡ before)
Stayed s gives run (Damaged offset) new before after x d act = ⊥
Stayed s gives run Lost new before after x d act = StopsOn d act × (after ≡ before)

-- WHAT A RECORD HAS TO BE
-- it is read back as itself and is no head, its act is of the node's kind and has a ballot left, and behind records that give the state
-- back it gives back the state after the act
pub record IsLogged (gives : List (List ℕ) → NodeDurable → Type 0) (x : Standing) (act : AnyAct) (r : Record) : Type 0 where
  pub again : records_of (record_bytes r ∷ []) ≡ r ∷ []
  pub kind : new_volatile act.durable ≡ new_volatile x.durable
  pub left : act.spent ≡ false
  pub gives_more : (blobs : List (List ℕ)) → gives blobs x.durable → gives (blobs ++ record_bytes r ∷ []) act.durable

abbrev pub AreLogged : (List (List ℕ) → NodeDurable → Type 0) → Standing → AnyAct → Type 0
AreLogged gives x act = IfSome act.logs (IsLogged gives x act)

-- A LOG AT WHICH A NODE STOPPED: its disk has these records, and with its power on again it is the device
pub record StopsAt (run : Run) (log : State) (blobs : List (List ℕ)) (d : Device) : Type 0 where
  pub told : Told
  pub tells : log.told ≡ Some told
  pub disk : IsDisk run.begun run.ended (powered_disk told) On (powered d)
  pub left : records (read_bytes told) ≡ Ok blobs
  pub offset : size_of blobs ≡ d.offset

-- the log is open again, on the device after that, and the record was kept where it has one record more than before
pub record IsOpenAgain (run : Run) (before after : State) (blobs now : List (List ℕ)) (d : Device) (course : Course) : Type 0 where
  pub same : now ≡ blobs
  pub has : after.records ≡ Some blobs
  pub count : after.count ≡ length blobs
  pub size : after.size ≡ size_of blobs
  pub opens : opened (powered d) ≡ Some (read_once (called (powered d)))
  pub device : IsLog run.begun run.ended after (read_once (called (powered d)))
  pub sound : after.failed ≡ false
  pub course_is : course ≡ Stops (nat_lt before.count (length now))

abbrev pub OpensAgain : {N J D : Type 0} → (J → State) → Run → State → List (List ℕ) → Device → Host N J D → Course → Type 0
OpensAgain state run before blobs d (Opened journal now) course = IsOpenAgain run before (state journal) blobs now d course
OpensAgain state run before blobs d host course = ⊥

abbrev pub StaysShut : HostFault → Device → Type 0
StaysShut NoMemory d = ⊥
StaysShut BallotsSpent d = ⊥
StaysShut DiskFailed d = opened (powered d) ≡ None
StaysShut (Damaged offset) d = ⊥
StaysShut Lost d = Unit {0}
