-- What a farm keeps of each node's disk.
use Rattle.std.specs.Prelude.{ℕ, ◌≡◌, ◌≤◌, max, List, [], length, Option, IfSome}
use Rattle.std.specs.Option.{option_map}
use Rattle.rc_disk.specs.Calls.{Told, all_synced, powered}
use Rattle.rc_disk.specs.declared.power.Power.{Power}
use Rattle.rc_disk.specs.declared.power.Power.TheVariants.{On}

-- a disk as it stands: what it tells, what a read gives, its power, and its counts
pub record Standing : Type 0 where
  pub told : Option Told
  pub content : Option (List ℕ)
  pub power : Power
  pub faults : ℕ
  pub cuts : ℕ

abbrev pub standing : Option Told → Option (List ℕ) → Power → ℕ → ℕ → Standing
standing told content power faults cuts = record { told = told; content = content; power = power; faults = faults; cuts = cuts }

-- with its power on, and with counts that are at least these
abbrev pub renewed : ℕ → ℕ → Standing → Standing
renewed faults cuts s = standing (option_map powered s.told) s.content On (max s.faults faults) (max s.cuts cuts)

-- how many calls and reads were made, and how many of them failed
pub record Tally : Type 0 where
  pub calls : ℕ
  pub failed : ℕ
  pub reads : ℕ
  pub failed_reads : ℕ
  pub off_reads : ℕ

abbrev pub tally : Told → Tally
tally t = record {
  calls = t.numbers.calls;
  failed = length t.numbers.failed;
  reads = t.reads.made;
  failed_reads = length t.reads.failed;
  off_reads = t.reads.off;
}

-- the counts that a disk had at a selection
pub record Start : Type 0 where
  pub made : Option Tally
  pub faults : ℕ
  pub cuts : ℕ

abbrev pub start_of : Standing → Start
start_of s = record { made = option_map tally s.told; faults = s.faults; cuts = s.cuts }

-- the power is on, and no cut of it is armed
pub record IsReady (s : Standing) : Type 0 where
  pub on : s.power ≡ On
  pub told_on : IfSome s.told (λ t. t.power ≡ On)

-- nothing is on the disk
pub record IsFresh (s : Standing) : Type 0 where
  pub nothing : IfSome s.content (λ c. c ≡ [])
  pub no_image : IfSome s.told (λ t. t.images ≡ all_synced [])

-- counts never fall
pub record HasLaterCounts (old new : Standing) : Type 0 where
  pub of_faults : old.faults ≤ new.faults
  pub of_cuts : old.cuts ≤ new.cuts
