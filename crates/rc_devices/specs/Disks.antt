-- A disk that tells its calls, as a device of a run in the place that is read off its farm at the end: the device's calls are those of the
-- disk since the start, and its failing calls are those that the disk tells at the end.
use Rattle.std.specs.Prelude.{◌≡◌, ◌<◌, ◌≤◌, ◌+◌, ◌-◌, ◌^◌, ◌++◌, ℕ, zero, suc, List, [], ◌∷◌, Option, None, Some}
use Rattle.rc_disk.specs.declared.power.Power.{Power}
use Rattle.rc_disk.specs.declared.power.Power.TheVariants.{On, Armed}
use Rattle.rc_disk.specs.declared.power.Failure.{Failure}
use Rattle.rc_disk.specs.Calls.{Told}
use Rattle.rc_disk.specs.Places.{Start}
use Rattle.rc_log.specs.Journals.{State}
use Rattle.rc_runs.specs.Devices.{Device, called, most_log_bytes}
use Rattle.rc_runs.specs.Farms.{numbers_since, is_by_list, failed_by, calls_at, reads_at}

-- the power of a device
abbrev pub power_of : Option (ℕ × ℕ) → Power
power_of None = On
power_of (Some cut) = Armed cut.0 cut.1

-- NUMBERS
-- each of these numbers is above n, or none is
abbrev pub AllAbove : ℕ → List ℕ → Type 0
AllAbove n [] = Unit {0}
AllAbove n (m ∷ ms) = (n < m) × AllAbove n ms

abbrev pub AllWithin : ℕ → List ℕ → Type 0
AllWithin n [] = Unit {0}
AllWithin n (m ∷ ms) = (m ≤ n) × AllWithin n ms

abbrev pub AreAbove : ℕ → List Failure → Type 0
AreAbove n [] = Unit {0}
AreAbove n (f ∷ fs) = (n < f.number) × AreAbove n fs

abbrev pub AreWithin : ℕ → List Failure → Type 0
AreWithin n [] = Unit {0}
AreWithin n (f ∷ fs) = (f.number ≤ n) × AreWithin n fs

-- of so many calls these failed; at the end they are told still, with later ones behind them
pub record AreKept (calls : ℕ) (failed ended : List Failure) : Type 0 where
  pub since : List Failure
  pub all : ended ≡ failed ++ since
  pub above : AreAbove calls since

pub record ReadsAreKept (made : ℕ) (failed ended : List ℕ) : Type 0 where
  pub since : List ℕ
  pub all : ended ≡ failed ++ since
  pub above : AllAbove made since

-- what is told now is told at the end still, and the count of reads is not full
pub record IsKept (now ended : Told) : Type 0 where
  pub calls : AreKept now.numbers.calls now.numbers.failed ended.numbers.failed
  pub reads : ReadsAreKept now.reads.made now.reads.failed ended.reads.failed
  pub left : now.reads.made < 2 ^ 64 - 1

-- THE DEVICE
-- the calls of a disk, those that failed and its power
pub record IsShown (begun : Start) (ended : List Failure) (calls : ℕ) (failed : List Failure) (power : Power) (d : Device) : Type 0 where
  pub counted : calls ≡ calls_at begun + d.calls
  pub listed : d.failing ≡ numbers_since (calls_at begun) (failed_by is_by_list ended)
  pub within : AreWithin calls failed
  pub power_is : power ≡ power_of d.cut

-- the reads of a disk, and those that failed
pub record ReadsAreShown (begun : Start) (ended : List ℕ) (made : ℕ) (failed : List ℕ) (d : Device) : Type 0 where
  pub counted : made ≡ reads_at begun + d.reads
  pub listed : d.failing_reads ≡ numbers_since (reads_at begun) ended
  pub within : AllWithin made failed

-- a disk that tells this, with this power
pub record IsDisk (begun : Start) (ended told : Told) (power : Power) (d : Device) : Type 0 where
  pub calls : IsShown begun ended.numbers.failed told.numbers.calls told.numbers.failed power d
  pub reads : ReadsAreShown begun ended.reads.failed told.reads.made told.reads.failed d

-- a log on such a disk
pub record IsLog (begun : Start) (ended : Told) (log : State) (d : Device) : Type 0 where
  pub told : Told
  pub tells : log.told ≡ Some told
  pub power : Power
  pub has_power : log.power ≡ Some power
  pub disk : IsDisk begun ended told power d
  pub offset : log.size ≡ d.offset
  pub limit : log.limit ≡ Some most_log_bytes

-- after so many calls
abbrev pub calls_made : ℕ → Device → Device
calls_made zero d = d
calls_made (suc n) d = calls_made n (called d)
