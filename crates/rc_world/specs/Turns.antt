-- How an event went at the host of a node that was up.
use Rattle.std.specs.Prelude.{◌≡◌, ℕ, true, List, [], ◌∷◌, None}
use Rattle.rc_ids.specs.declared.names.NodeId.{NodeId}
use Rattle.rc_ids.specs.declared.names.Party.TheVariants.{Node}
use Rattle.rc_msg.specs.Outboxes.{Outbox, new_outbox}
use Rattle.rc_report.specs.declared.line.Line.{Line}
use Rattle.rc_report.specs.declared.line.Line.TheVariants.{Stopped}
use Rattle.rc_report.specs.declared.fault.Which.TheVariants.{Ballots}
use Rattle.rc_runs.specs.Devices.{Device}
use Rattle.rc_host.specs.AnyNode.{AnyAct, NodeDurable}
use Rattle.rc_host.specs.Standing.{Standing, device_after}
use Rattle.rc_host.specs.Hosts.{Sight, Run, IsHost, Went, StopsOn}
use Rattle.rc_host.specs.declared.host.Host.{Host}
use Rattle.rc_host.specs.declared.host.Course.{Course}
use Rattle.rc_host.specs.declared.host.Course.TheVariants.{Goes, Stops}
use Rattle.rc_host.specs.declared.host.HostFault.{HostFault}
use Rattle.rc_host.specs.declared.host.HostFault.TheVariants as faults
use Rattle.rc_host.specs.declared.restarts.RestartFault.{RestartFault}
use Rattle.rc_host.specs.declared.restarts.RestartFault.TheVariants as restart_faults
use Rattle.rc_begin.specs.declared.fault.WorldFault.{WorldFault}
use Rattle.rc_begin.specs.declared.fault.WorldFault.TheVariants.{NoMemory, Farm, Log, Limit, Naming}

abbrev pub lines_of : NodeId → Course → List Line
lines_of node Goes = []
lines_of node (Stops kept) = Stopped node ∷ []

-- the node did its act, or stopped inside it, and that is printed
pub record Turned {N J D : Type 0} (s : Sight N J D) (gives : List (List ℕ) → NodeDurable → Type 0) (run : Run) (new : Host N J D) (out : Outbox) (course : Course) (printed : List Line) (x : Standing) (d : Device) (act : AnyAct) : Type 0 where
  pub went : Went s gives run course new (new_outbox (Node run.node)) out x d act
  pub prints : printed ≡ lines_of run.node course

-- what a fault of a host is to its world
abbrev pub fault_of : HostFault → WorldFault
fault_of faults.NoMemory = NoMemory
fault_of faults.BallotsSpent = Limit Ballots
fault_of faults.DiskFailed = Farm
fault_of (faults.Damaged offset) = Farm
fault_of faults.Lost = NoMemory

-- why it did not: after want of memory it is as before or lost
pub data Unturned {N J D : Type 0} (s : Sight N J D) (gives : List (List ℕ) → NodeDurable → Type 0) (run : Run) (new : Host N J D) (x : Standing) (d : Device) (act : AnyAct) : Type 0 where
  Stays : IsHost s gives run new x d → Unturned s gives run new x d act
  Lost : StopsOn d act → Unturned s gives run new x d act

abbrev pub TurnRefused : {N J D : Type 0} → Sight N J D → (List (List ℕ) → NodeDurable → Type 0) → Run → WorldFault → Host N J D → Standing → Device → AnyAct → Type 0
TurnRefused s gives run NoMemory new x d act = Unturned s gives run new x d act
TurnRefused s gives run Farm new x d act = StopsOn d act × (device_after d act ≡ None)
TurnRefused s gives run (Limit which) new x d act = (act.spent ≡ true) × (which ≡ Ballots)
TurnRefused s gives run (Log node fault) new x d act = ⊥
TurnRefused s gives run (Naming name) new x d act = ⊥

-- what a fault of a start is to its world; a log that was written in the run is never refused
abbrev pub start_fault : RestartFault → WorldFault
start_fault restart_faults.NoMemory = NoMemory
start_fault restart_faults.DiskFailed = Farm
start_fault (restart_faults.Refused fault) = Farm
