-- How a node begins a run, from what its disk has.
use Rattle.std.specs.Prelude.{◌≡◌, ◌++◌, ℕ, Bool, true, false, List, [], ◌∷◌, Option, Some, Result, Ok, Err, length}
use Rattle.rc_ids.specs.Cluster.{Layout}
use Rattle.rc_ids.specs.declared.names.NodeId.{NodeId}
use Rattle.rc_ids.specs.declared.names.NodeId.TheVariants.{Coord, Shard as ShardServer}
use Rattle.rc_disk.specs.declared.power.Power.{Power}
use Rattle.rc_disk.specs.declared.power.Power.TheVariants.{On}
use Rattle.rc_disk.specs.Calls.{Told}
use Rattle.rc_log.specs.Journals.{State, Fails, would_pass_limit}
use Rattle.rc_log.specs.Records.{size_of}
use Rattle.rc_record.specs.Heads.{new_head}
use Rattle.rc_record.specs.Spelling.{record_bytes, HasHead}
use Rattle.rc_record.specs.declared.record.Record.{Record}
use Rattle.rc_record.specs.declared.record.Record.TheVariants.{Head}
use Rattle.rc_record.specs.declared.fault.ReplayFault.{ReplayFault}
use Rattle.rc_record.specs.declared.fault.ReplayFault.TheVariants.{NoMemory as OutOfMemory, BadRecord, OtherWorld}
use Rattle.rc_report.specs.declared.fault.LogFault.TheVariants.{BadRecord as BadLogRecord, OtherWorld as LogOfOtherWorld}
use Rattle.rc_report.specs.declared.fault.Which.TheVariants.{Log as LogOf}
use Rattle.rc_protocol.specs.Nodes.{coord_started, shard_started}
use Rattle.rc_runs.specs.Devices.{Device}
use Rattle.rc_runs.specs.Session.{Halt, Limited, LogRefused, FarmFails}
use Rattle.rc_runs.specs.Stored.{Begun, fault_of, refusal, records_of, owes_head}
use Rattle.rc_devices.specs.Disks.{IsDisk, IsLog}
use Rattle.rc_host.specs.AnyNode.{NodeDurable}
use Rattle.rc_host.specs.Standing.{Standing, coord_standing, shard_standing}
use Rattle.rc_host.specs.declared.host.Host.{Host}
use Rattle.rc_host.specs.declared.begins.BeginFault.{BeginFault}
use Rattle.rc_host.specs.declared.begins.BeginFault.TheVariants.{NoMemory, DiskFailed, Refused, Limit}
use Rattle.rc_host.specs.Hosts.{Sight, Run, IsHost, HasLog}

-- the head of the newest format, as bytes
abbrev pub newest_bytes : NodeId → Layout → List ℕ
newest_bytes node c = record_bytes (Head (new_head node c))

-- a node of this name that starts from these records
abbrev pub standing_from : NodeId → List Record → Standing
standing_from (Coord d) log = coord_standing (coord_started log)
standing_from (ShardServer d sh) log = shard_standing (shard_started log)

-- what a log gives a node that begins
pub record BeginLaws {A : Type 0} (gives : A → NodeDurable) (replayed : NodeId → Layout → List (List ℕ) → Result A ReplayFault) (back : NodeId → Layout → List (List ℕ) → NodeDurable → Type 0) (node : NodeId) (c : Layout) : Type 0 where
  -- it is refused where the run refuses it
  pub refuses : (blobs : List (List ℕ)) → fault_of (replayed node c blobs) ≡ refusal node c blobs
  -- a replay gives what the records make, one after another
  pub starts : (blobs : List (List ℕ)) (a : A) → replayed node c blobs ≡ Ok a → gives a ≡ (standing_from node (records_of blobs)).durable
  -- behind a head of the newest format the records give the state back, and so they do with one that they owe
  pub headed : (blobs : List (List ℕ)) (a : A) → replayed node c blobs ≡ Ok a → owes_head blobs ≡ false → back node c blobs (gives a)
  pub gets_head : (blobs : List (List ℕ)) (a : A) → replayed node c blobs ≡ Ok a → owes_head blobs ≡ true → HasHead (new_head node c) → back node c (blobs ++ newest_bytes node c ∷ []) (gives a)

-- a log with these records, on a disk that is the device
pub record IsStored (run : Run) (log : State) (blobs : List (List ℕ)) (d : Device) : Type 0 where
  pub has : log.records ≡ Some blobs
  pub count : log.count ≡ length blobs
  pub size : log.size ≡ size_of blobs
  pub device : IsLog run.begun run.ended log d
  pub sound : log.failed ≡ false

-- the node is up, as the run begins it; the records are those that its log had before a head was added
pub record HasBegun {N J D : Type 0} (s : Sight N J D) (gives : List (List ℕ) → NodeDurable → Type 0) (run : Run) (begins : Result Begun Halt) (new : Host N J D) (blobs : List (List ℕ)) : Type 0 where
  pub begun : Begun
  pub is : begins ≡ Ok begun
  pub log : begun.log ≡ records_of blobs
  pub host : IsHost s gives run new (standing_from run.node begun.log) begun.device

-- why it did not begin, as the run says it
abbrev pub HasNotBegun : Run → Result Begun Halt → BeginFault → Type 0
HasNotBegun run begins NoMemory = Unit {0}
HasNotBegun run begins DiskFailed = begins ≡ Err FarmFails
HasNotBegun run begins (Refused fault) = begins ≡ Err (LogRefused run.node fault)
HasNotBegun run begins Limit = begins ≡ Err (Limited (LogOf run.node))

-- a log that a head was to be added to
abbrev pub HeadFault : BeginFault → State → State → List ℕ → Type 0
HeadFault NoMemory old new bytes = new ≡ old
HeadFault DiskFailed old new bytes = Fails old new bytes × (would_pass_limit old (length bytes) ≡ false)
HeadFault (Refused fault) old new bytes = ⊥
HeadFault Limit old new bytes = (new ≡ old) × (would_pass_limit old (length bytes) ≡ true)

-- the log of a node that begins, with the head that it owed
pub record IsReady (gives : List (List ℕ) → NodeDurable → Type 0) (run : Run) (begins : Result Begun Halt) (journal : State) (blobs : List (List ℕ)) (durable : NodeDurable) : Type 0 where
  pub begun : Begun
  pub is : begins ≡ Ok begun
  pub records : begun.log ≡ records_of blobs
  pub now : List (List ℕ)
  pub log : HasLog gives run journal now (standing_from run.node begun.log) begun.device
  pub durable_is : durable ≡ (standing_from run.node begun.log).durable

-- a disk at the start of a run, which is the device, with nothing of its log read yet
pub record IsAtStart {D : Type 0} (told_by : D → Option Told) (content_of : D → Option (List ℕ)) (power_of : D → Power) (run : Run) (disk : D) (content : List ℕ) (d : Device) : Type 0 where
  pub content_is : content_of disk ≡ Some content
  pub told : Told
  pub tells : told_by disk ≡ Some told
  pub on : power_of disk ≡ On
  pub device : IsDisk run.begun run.ended told On d
  pub fresh : d.offset ≡ 0

-- a log that may owe a head
abbrev pub OwedFault : BeginFault → Bool → State → State → List ℕ → Type 0
OwedFault NoMemory owes old new bytes = new ≡ old
OwedFault fault owes old new bytes = (owes ≡ true) × HeadFault fault old new bytes

-- the fault of a replay that was refused
abbrev pub begin_fault : ReplayFault → BeginFault
begin_fault OutOfMemory = NoMemory
begin_fault (BadRecord index) = Refused (BadLogRecord index)
begin_fault OtherWorld = Refused LogOfOtherWorld
