-- How a disk's counts of faults and cuts move.
use Rattle.std.specs.Prelude.{ℕ, ◌≡◌, ◌≤◌, Bool, true, false, if◌then◌else◌, Result, OnOk}
use Rattle.rc_ports.specs.Causes.{raised}
use Rattle.rc_disk.specs.declared.power.Power.{Power}
use Rattle.rc_disk.specs.declared.power.Power.TheVariants.{On, Armed, Off}
use Rattle.rc_disk.specs.declared.power.Cause.{Cause}
use Rattle.rc_disk.specs.declared.power.Cause.TheVariants.{ByList, ByCut, WhileOff}

-- the count of cuts never falls, and rises in no call that was done
pub record HasCuts {T E : Type 0} (before now : ℕ) (result : Result T E) : Type 0 where
  pub later : before ≤ now
  pub done : OnOk result (now ≡ before)

-- the call failed for want of power
abbrev pub is_cut : Cause → Bool
is_cut ByList = false
is_cut (ByCut pick) = true
is_cut WhileOff = true

-- why a read fails, if it fails
abbrev pub read_cause : Power → Cause
read_cause On = ByList
read_cause (Armed k pick) = ByList
read_cause Off = WhileOff

-- a call that was done raises no count, one that failed that of faults, and for want of power that of cuts too
pub record AreCounted (cause : Cause) (ok : Bool) (faults faults_now cuts cuts_now : ℕ) : Type 0 where
  pub all_faults : faults_now ≡ (if ok then faults else raised faults)
  pub of_cuts : cuts_now ≡ (if ok then cuts else (if is_cut cause then raised cuts else cuts))
