-- How a node of a world begins, on a disk that its farm lends.
use Rattle.std.specs.Prelude.{◌≡◌, ◌≤◌, ◌+◌, ◌-◌, ◌^◌, ◌⊎◌, ◌++◌, ℕ, min, List, [], ◌∷◌, Option, Some, IfSome, Err, Result}
use Rattle.rc_ids.specs.declared.names.NodeId.{NodeId}
use Rattle.rc_disk.specs.declared.power.Power.TheVariants.{On}
use Rattle.rc_disk.specs.declared.farm.DeviceRefusal.{DeviceRefusal}
use Rattle.rc_disk.specs.declared.farm.DeviceRefusal.TheVariants as refusals
use Rattle.rc_disk.specs.Calls.{Told}
use Rattle.rc_disk.specs.Places.{Standing}
use Rattle.rc_report.specs.declared.fault.Which.TheVariants.{Log as LogOf}
use Rattle.rc_runs.specs.Farms.{numbers_since, failed_by, is_by_list, calls_at, reads_at}
use Rattle.rc_runs.specs.Session.{Halt, Limited, LogRefused, FarmFails}
use Rattle.rc_runs.specs.Stored.{Place, Begun}
use Rattle.rc_devices.specs.Disks.{AreWithin, AllWithin, IsKept}
use Rattle.rc_host.specs.AnyNode.{NodeDurable}
use Rattle.rc_host.specs.Hosts.{Sight, Run, IsToldBy}
use Rattle.rc_host.specs.Begins.{HasBegun}
use Rattle.rc_host.specs.declared.host.Host.{Host}
use Rattle.rc_host.specs.declared.begins.BeginFault.{BeginFault}
use Rattle.rc_host.specs.declared.begins.BeginFault.TheVariants as begin_faults
use Rattle.rc_begin.specs.declared.fault.WorldFault.{WorldFault}
use Rattle.rc_begin.specs.declared.fault.WorldFault.TheVariants.{NoMemory, Farm, Log, Limit, Naming}

-- the node's disk, as it stands at the start of the run, is that of the place: it has its content, its power is on, the run's counts begin
-- where those of the disk stand, and the calls that fail are those that the disk tells at the end
pub record IsStartOf (p : Place) (run : Run) (s : Standing) : Type 0 where
  pub told : Told
  pub tells : s.told ≡ Some told
  pub content : IfSome s.content (λ bytes. p.content run.node ≡ bytes)
  pub on : s.power ≡ On
  pub calls : told.numbers.calls ≡ calls_at run.begun
  pub reads : told.reads.made ≡ reads_at run.begun
  pub failed : AreWithin told.numbers.calls told.numbers.failed
  pub failed_reads : AllWithin told.reads.made told.reads.failed
  pub failing : p.failing run.node ≡ numbers_since (calls_at run.begun) (failed_by is_by_list run.ended.numbers.failed)
  pub failing_reads : p.failing_reads run.node ≡ numbers_since (reads_at run.begun) run.ended.reads.failed

-- what a refusal of the farm is to the world
abbrev pub lend_fault : DeviceRefusal → WorldFault
lend_fault refusals.NoMemory = NoMemory
lend_fault refusals.Failed = Farm

-- what the fault of a node that begins is to its world
abbrev pub begin_fault : NodeId → BeginFault → WorldFault
begin_fault node begin_faults.NoMemory = NoMemory
begin_fault node begin_faults.DiskFailed = Farm
begin_fault node (begin_faults.Refused fault) = Log node fault
begin_fault node begin_faults.Limit = Limit (LogOf node)

-- a count of faults rose, or stands at its last value
abbrev pub HasRisen : ℕ → ℕ → Type 0
HasRisen before now = min (before + 1) (2 ^ 64 - 1) ≤ now

-- why a node did not begin, as the run says it where the farm lends its disk; or the farm failed, with these counts of faults before and after
abbrev pub BeginRefused : {A : Type 0} → ℕ → ℕ → Result A Halt → WorldFault → Type 0
BeginRefused before after begins NoMemory = Unit {0}
BeginRefused before after begins Farm = HasRisen before after ⊎ (begins ≡ Err FarmFails)
BeginRefused before after begins (Log node fault) = begins ≡ Err (LogRefused node fault)
BeginRefused before after begins (Limit which) = begins ≡ Err (Limited which)
BeginRefused before after begins (Naming name) = ⊥

-- one node more has begun, behind those before it; the blobs are the records that its log had
pub record IsNext {N J D : Type 0} (s : Sight N J D) (gives : List (List ℕ) → NodeDurable → Type 0) (run : Run) (begins : Result Begun Halt) (hosts hosts_now : List (Host N J D)) (logs logs_now : List (List (List ℕ))) : Type 0 where
  pub host : Host N J D
  pub blobs : List (List ℕ)
  pub hosts_are : hosts_now ≡ hosts ++ host ∷ []
  pub logs_are : logs_now ≡ logs ++ blobs ∷ []
  pub begun : IsToldBy s host run.ended → HasBegun s gives run begins host blobs

-- what the disk of the last host told before, is told at the end still where that is so of what it tells now
abbrev pub LastGrew : {N J D : Type 0} → Sight N J D → List (Host N J D) → List (Host N J D) → Option Told → Type 0
LastGrew {N} {J} {D} s hosts hosts_now told = (host : Host N J D) (ended : Told) → hosts_now ≡ hosts ++ host ∷ [] → IsToldBy s host ended → IfSome told (λ t. IsKept t ended)
