-- What the calls of a log on a disk that tells them are to the devices of a run.
use Rattle.std.specs.Prelude.{◌≡◌, ℕ, false, true, List, length, None, Some, IfSome, if◌then◌else◌}
use Rattle.rc_disk.specs.declared.power.Cause.{Cause}
use Rattle.rc_disk.specs.declared.power.Power.{Power}
use Rattle.rc_disk.specs.declared.power.Power.TheVariants.{On}
use Rattle.rc_disk.specs.Calls.{Told, powered as powered_disk}
use Rattle.rc_disk.specs.Places.{Start}
use Rattle.rc_log.specs.Journals.{State, Appends, Fails, would_pass_limit, with_cut}
use Rattle.rc_log.specs.Append.{create_calls, all_done}
use Rattle.rc_log.specs.Opening.{synced_and_read, FailsToOpen, FailsToBegin}
use Rattle.rc_runs.specs.Devices.{Device, Made, Full, keeps, offset_after, FailsAt, appended, created, opened, powered, armed, read_once, called}
use Rattle.rc_devices.specs.Disks.{IsKept, IsDisk, IsLog, calls_made}

-- what the log's disk tells is told at the end still
abbrev pub IsTold : State → Told → Type 0
IsTold log ended = IfSome log.told (λ t. IsKept t ended)

-- APPENDS
-- the device makes an append that was done, and is that of the log then
pub record IsMade (begun : Start) (ended : Told) (new : State) (d : Device) (len : ℕ) : Type 0 where
  pub after : Device
  pub is : appended d len ≡ (Made, after)
  pub device : IsLog begun ended new after

-- one that the disk failed fails at the same call for the same reason, and with its power on again the disk is the device
pub record IsFailed (begun : Start) (ended : Told) (new : State) (call : ℕ) (cause : Cause) (d : Device) (len : ℕ) : Type 0 where
  pub after : Device
  pub is : appended d len ≡ (FailsAt call cause, after)
  pub offset : after.offset ≡ (if keeps call cause then offset_after d.offset len else d.offset)
  pub told : Told
  pub tells : new.told ≡ Some told
  pub disk : IsDisk begun ended (powered_disk told) On (powered after)

pub record AppendsAreDevices (begun : Start) (ended : Told) (old : State) (d : Device) (r : List ℕ) : Type 0 where
  pub done : (new : State) → Appends old new r → would_pass_limit old (length r) ≡ false → IsTold new ended → IsMade begun ended new d (length r)
  pub failed : (new : State) (fails : Fails old new r) → would_pass_limit old (length r) ≡ false → IsTold new ended
      → IsFailed begun ended new fails.calls.call fails.calls.cause d (length r)
  pub full : would_pass_limit old (length r) ≡ true → appended d (length r) ≡ (Full, d)

-- CUTS
-- a cut that is armed is the device's, and so is one that is over
pub record CutsAreDevices (begun : Start) (ended : Told) (d : Device) : Type 0 where
  pub arms : (log : State) → IsLog begun ended log d → (k pick : ℕ) → IsLog begun ended (with_cut k pick log) (armed d k pick)
  pub ends : (told : Told) (power : Power) → IsDisk begun ended told power d → IsDisk begun ended (powered_disk told) On (powered d)

-- OPENINGS
-- a disk that is opened is the device
pub record OpeningsAreDevices (begun : Start) (ended told : Told) (d : Device) : Type 0 where
  pub done : IsKept (synced_and_read true told) ended → (opened d ≡ Some (read_once (called d))) × IsDisk begun ended (synced_and_read true told) On (read_once (called d))
  pub failed : (len : ℕ) (now : Told) (power power_now : Power) (faults faults_now cuts cuts_now : ℕ) → power ≡ On → FailsToOpen len (Some told) (Some now) power power_now faults faults_now cuts cuts_now
      → IsKept now ended → opened d ≡ None

-- CREATIONS
pub record CreationsAreDevices (begun : Start) (ended told : Told) (d : Device) : Type 0 where
  pub done : IsKept (all_done create_calls told) ended → (created d ≡ (Made, calls_made 2 d)) × IsDisk begun ended (all_done create_calls told) On (calls_made 2 d)
  pub failed : (now : Told) (power power_now : Power) (faults faults_now cuts cuts_now : ℕ) → power ≡ On → (fails : FailsToBegin (Some told) (Some now) power power_now faults faults_now cuts cuts_now) → IsKept now ended
      → created d ≡ (FailsAt fails.call fails.cause, calls_made fails.call d)
