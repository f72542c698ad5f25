-- How a node that is down starts again.
use Rattle.std.specs.Prelude.{◌≡◌, ◌⊎◌, ◌+◌, ℕ, zero, suc, List, None, Some}
use Rattle.rc_msg.specs.Outboxes.{Outbox}
use Rattle.rc_msg.specs.Posts.{posted_all}
use Rattle.rc_protocol.specs.Acts.{Catches}
use Rattle.rc_runs.specs.Devices.{Device, opened_once, called, powered}
use Rattle.rc_record.specs.declared.fault.ReplayFault.{ReplayFault}
use Rattle.rc_record.specs.declared.fault.ReplayFault.TheVariants.{NoMemory as OutOfMemory, BadRecord, OtherWorld}
use Rattle.rc_report.specs.declared.fault.LogFault.TheVariants.{BadRecord as BadLogRecord, OtherWorld as LogOfOtherWorld}
use Rattle.rc_host.specs.AnyNode.{AnyAct, NodeDurable, node_act}
use Rattle.rc_host.specs.Standing.{Standing, started_again, after_act}
use Rattle.rc_host.specs.declared.host.Host.{Host}
use Rattle.rc_host.specs.declared.host.Host.TheVariants.{Down}
use Rattle.rc_host.specs.declared.restarts.RestartFault.{RestartFault}
use Rattle.rc_host.specs.declared.restarts.RestartFault.TheVariants.{NoMemory, DiskFailed, Refused}
use Rattle.rc_host.specs.Hosts.{Sight, Run, IsHost}

-- the node is up, on the device whose log was opened
pub record HasStarted {N J D : Type 0} (s : Sight N J D) (gives : List (List ℕ) → NodeDurable → Type 0) (run : Run) (new : Host N J D) (x : Standing) (d : Device) : Type 0 where
  pub device : Device
  pub opens : opened_once d ≡ Some device
  pub host : IsHost s gives run new (started_again x) device

-- a device after so many calls of an opening, while its log is shut
abbrev pub tried : ℕ → Device → Device
tried zero d = d
tried (suc zero) d = called d
tried (suc (suc n)) d = record (called d) { reads = d.reads + 1 }

-- as before, or after some calls of an opening for which there was no memory, or with its log open
abbrev pub IsTried : Device → Device → Type 0
IsTried d device = ((calls : ℕ) × (device ≡ tried calls d)) ⊎ (opened_once d ≡ Some device)

-- the node is as it was, on such a device
pub record IsStillDown {N J D : Type 0} (s : Sight N J D) (gives : List (List ℕ) → NodeDurable → Type 0) (run : Run) (new : Host N J D) (x : Standing) (d : Device) : Type 0 where
  pub device : Device
  pub reached : IsTried d device
  pub host : IsHost s gives run new x device

-- a host that has nothing but its disk
abbrev pub IsShut : {N J D : Type 0} → Host N J D → Type 0
IsShut (Down disk) = Unit {0}
IsShut _ = ⊥

-- why it did not start, and what that leaves
abbrev pub HasNotStarted : {N J D : Type 0} → Sight N J D → (List (List ℕ) → NodeDurable → Type 0) → Run → RestartFault → Host N J D → Standing → Device → Type 0
HasNotStarted s gives run NoMemory new x d = IsStillDown s gives run new x d
HasNotStarted s gives run DiskFailed new x d = (opened_once d ≡ None) × IsShut new
HasNotStarted s gives run (Refused fault) new x d = ⊥

-- the fault of a replay that was refused
abbrev pub restart_fault : ReplayFault → RestartFault
restart_fault OutOfMemory = NoMemory
restart_fault (BadRecord index) = Refused (BadLogRecord index)
restart_fault OtherWorld = Refused LogOfOtherWorld

-- CATCHING UP
-- what a node asks the others for
abbrev pub asking : Run → Standing → AnyAct
asking run x = node_act run.cluster run.node x.durable x.volatile Catches

-- a node that is up asked the others
pub record HasAsked {N J D : Type 0} (s : Sight N J D) (gives : List (List ℕ) → NodeDurable → Type 0) (run : Run) (new : Host N J D) (before after : Outbox) (x : Standing) (d : Device) : Type 0 where
  pub host : IsHost s gives run new (after_act x (asking run x)) d
  pub sends : after ≡ posted_all before (asking run x).sends

-- the node is up, on the device whose log was opened, and asked the others
pub record HasRejoined {N J D : Type 0} (s : Sight N J D) (gives : List (List ℕ) → NodeDurable → Type 0) (run : Run) (new : Host N J D) (before after : Outbox) (x : Standing) (d : Device) : Type 0 where
  pub device : Device
  pub opens : opened_once d ≡ Some device
  pub asked : HasAsked s gives run new before after (started_again x) device

-- its log was opened, and the node was stopped again
pub record WasOpened {N J D : Type 0} (s : Sight N J D) (gives : List (List ℕ) → NodeDurable → Type 0) (run : Run) (new : Host N J D) (x : Standing) (d : Device) : Type 0 where
  pub device : Device
  pub opens : opened_once d ≡ Some device
  pub host : IsHost s gives run new x (powered device)

-- why it did not start, or not ask, and what that leaves
abbrev pub HasNotRejoined : {N J D : Type 0} → Sight N J D → (List (List ℕ) → NodeDurable → Type 0) → Run → RestartFault → Host N J D → Standing → Device → Type 0
HasNotRejoined s gives run NoMemory new x d = IsStillDown s gives run new x d ⊎ WasOpened s gives run new x d
HasNotRejoined s gives run DiskFailed new x d = (opened_once d ≡ None) × IsShut new
HasNotRejoined s gives run (Refused fault) new x d = ⊥
