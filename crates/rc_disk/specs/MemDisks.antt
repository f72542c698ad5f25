-- What a memory disk tells.
use Rattle.std.specs.Prelude.{ℕ, ◌≡◌, ◌≢◌, ◌+◌, Bool, List, [], length, Option, Some, is_none}
use Rattle.rc_ports.specs.Causes.{raised, is_listed}
use Rattle.rc_disk.specs.Past.{IsOne, LeftSince}
use Rattle.std.specs.Option.{option_map}
use Rattle.rc_disk.specs.Places.{Standing, Start, Tally, standing}
use Rattle.rc_disk.specs.declared.marks.Marks.{Marks}
use Rattle.rc_disk.specs.declared.marks.Tallied.{Tallied}
use Rattle.rc_disk.specs.Calls.{Told, all_synced}
use Rattle.rc_disk.specs.declared.power.Power.{Power}
use Rattle.rc_disk.specs.declared.power.Power.TheVariants.{On}
use Rattle.rc_disk.specs.Memory.{images_of, numbers_of, reads_of, history_of, verdict, is_read}
use Rattle.rc_disk.specs.declared.mem_disk.MemDisk.{MemDisk}

abbrev pub told_of : MemDisk → Told
told_of d = record { numbers = numbers_of d.calls; reads = reads_of d.reads; power = d.calls.power; images = images_of d.images }

abbrev pub content_of : MemDisk → List ℕ
content_of d = d.images.plain.items

abbrev pub power_of : MemDisk → Power
power_of d = d.calls.power

abbrev pub faults_of : MemDisk → ℕ
faults_of d = d.calls.faults

abbrev pub cuts_of : MemDisk → ℕ
cuts_of d = d.calls.cuts

-- the numbers of the calls that are to fail, and of the reads
abbrev pub failing_calls : MemDisk → List ℕ
failing_calls d = d.calls.fails.items

abbrev pub failing_reads : MemDisk → List ℕ
failing_reads d = d.reads.fails.items

-- what a disk with these bytes tells of which no call was made
abbrev pub told_first : List ℕ → Told
told_first bytes = record {
  numbers = record { calls = 0; failed = [] };
  reads = record { made = 0; failed = []; off = 0 };
  power = On;
  images = all_synced bytes;
}

abbrev pub standing_of : MemDisk → Standing
standing_of d = standing (Some (told_of d)) (Some (content_of d)) (power_of d) (faults_of d) (cuts_of d)

abbrev pub tally_of : Tallied → Tally
tally_of t = record { calls = t.calls; failed = t.failed; reads = t.reads; failed_reads = t.failed_reads; off_reads = t.off_reads }

abbrev pub start_marked : Marks → Start
start_marked m = record { made = option_map tally_of m.told; faults = m.faults; cuts = m.cuts }

abbrev pub known_content : MemDisk → Option (List ℕ)
known_content d = Some (content_of d)

abbrev pub known_told : MemDisk → Option Told
known_told d = Some (told_of d)

abbrev pub may_leave_of : MemDisk → List ℕ → Type 0
may_leave_of d left = IsOne (images_of d.images) left

abbrev pub moment_of : MemDisk → ℕ
moment_of d = length d.past.events.items

abbrev pub left_since_of : MemDisk → ℕ → List ℕ → Type 0
left_since_of d t left = LeftSince (history_of d.past) t left

abbrev pub spare_calls_of : MemDisk → ℕ
spare_calls_of d = d.calls.spare

abbrev pub spare_bytes_of : MemDisk → ℕ
spare_bytes_of d = d.spare

abbrev pub size_of : MemDisk → ℕ
size_of d = length (content_of d)

-- a call of write_at, cut or sync is done: its number is not in the list, and no cut of the power falls at it
abbrev pub call_is_done : MemDisk → Bool
call_is_done d = is_none (verdict (failing_calls d) (d.calls.made + 1) d.calls.power)

abbrev pub read_is_done : MemDisk → Bool
read_is_done d = is_read (failing_reads d) (raised d.reads.made) d.calls.power

pub record HasSameLists (old new : MemDisk) : Type 0 where
  pub of_calls : failing_calls new ≡ failing_calls old
  pub of_reads : failing_reads new ≡ failing_reads old

-- the list of reads, but for the number of the one that was made
pub record HasOtherReads (old new : MemDisk) : Type 0 where
  pub of_calls : failing_calls new ≡ failing_calls old
  pub of_reads : (m : ℕ) → m ≢ raised old.reads.made → is_listed (failing_reads new) m ≡ is_listed (failing_reads old) m
