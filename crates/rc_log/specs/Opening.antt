-- How the calls go that create and open a log.
use Rattle.std.specs.Prelude.{ℕ, zero, suc, ◌≡◌, ◌≤◌, ◌==◌, Bool, true, false, if◌then◌else◌, List, Option, IfSome, Err, ⊤}
use Rattle.std.specs.Option.{option_map}
use Rattle.rc_ports.specs.Causes.{Rose}
use Rattle.rc_disk.specs.declared.power.Power.{Power}
use Rattle.rc_disk.specs.declared.power.Cause.{Cause}
use Rattle.rc_disk.specs.Calls.{Told, Numbers, Reads, Syncs, after_done, after_failed, after_read, read_done, read_failed, power_after, cause_at}
use Rattle.rc_disk.specs.Counts.{AreCounted, read_cause}
use Rattle.rc_log.specs.Records.{records}
use Rattle.rc_log.specs.Append.{AreStill, create_calls, stopped_at, stopped_by, numbers_of, counted_by, power_past, cause_of_call}
use Rattle.rc_log.specs.declared.fault.OpenFault.{OpenFault}
use Rattle.rc_log.specs.declared.fault.OpenFault.TheVariants.{NoMemory, Failed, Damaged}

-- one of the two calls that create a log failed
pub record FailsToBegin (before now : Option Told) (power power_now : Power) (faults faults_now cuts cuts_now : ℕ) : Type 0 where
  pub call : ℕ
  pub cause : Cause
  pub low : 1 ≤ call
  pub high : call ≤ 2
  pub reason : cause ≡ cause_of_call call power
  pub power_is : power_now ≡ power_past call power
  pub whole_state : now ≡ option_map (stopped_at call create_calls) before
  pub counts : AreCounted cause false faults faults_now cuts cuts_now
  pub numbers : numbers_of now ≡ option_map (stopped_by call cause) (numbers_of before)

-- why no log was created, and what that did
abbrev pub IsNoBegin : OpenFault → Option Told → Option Told → Power → Power → ℕ → ℕ → ℕ → ℕ → Type 0
IsNoBegin NoMemory before now power power_now faults faults_now cuts cuts_now = (now ≡ before) × (power_now ≡ power) × AreStill faults faults_now cuts cuts_now
IsNoBegin Failed before now power power_now faults faults_now cuts cuts_now = FailsToBegin before now power power_now faults faults_now cuts cuts_now × Rose faults faults_now
IsNoBegin (Damaged place) before now power power_now faults faults_now cuts cuts_now = ⊥

-- THE TWO CALLS OF AN OPENING: the sync, and the read of the whole content

-- after the sync, and the one read, of an opening
abbrev pub synced_and_read : Bool → Told → Told
synced_and_read ok t = after_read ok (after_done Syncs t)

-- so many of the two are done
abbrev pub opened_by : ℕ → Told → Told
opened_by zero t = t
opened_by (suc zero) t = after_done Syncs t
opened_by (suc (suc n)) t = synced_and_read true t

-- the one of this number, counted from 1, fails, and the one before it is done
abbrev pub refused_at : ℕ → Told → Told
refused_at zero t = t
refused_at (suc zero) t = after_failed Syncs t
refused_at (suc (suc n)) t = synced_and_read false t

abbrev pub refusal_cause : ℕ → Power → Cause
refusal_cause zero power = cause_at power
refusal_cause (suc zero) power = cause_at power
refusal_cause (suc (suc n)) power = read_cause (power_after power)

-- how many syncs there are among so many calls
abbrev pub syncs_in : ℕ → ℕ
syncs_in zero = 0
syncs_in (suc n) = 1

abbrev pub told_reads : Option Told → Option Reads
told_reads told = option_map (λ (t : Told). t.reads) told

abbrev pub reads_by : ℕ → Reads → Reads
reads_by zero r = r
reads_by (suc zero) r = r
reads_by (suc (suc n)) r = read_done r

abbrev pub numbers_refused : ℕ → Cause → Numbers → Numbers
numbers_refused zero cause n = n
numbers_refused (suc zero) cause n = stopped_by 1 cause n
numbers_refused (suc (suc k)) cause n = counted_by 1 n

abbrev pub reads_refused : ℕ → Power → Reads → Reads
reads_refused zero power r = r
reads_refused (suc zero) power r = r
reads_refused (suc (suc n)) power r = read_failed (power_after power) r

-- so many calls of an opening were done, and none failed: no count of faults or cuts moved
pub record StopsOpening (calls : ℕ) (before now : Option Told) (power power_now : Power) (faults faults_now cuts cuts_now : ℕ) : Type 0 where
  pub power_is : power_now ≡ power_past (syncs_in calls) power
  pub whole_state : now ≡ option_map (opened_by calls) before
  pub counts : AreStill faults faults_now cuts cuts_now
  pub numbers : numbers_of now ≡ option_map (counted_by (syncs_in calls)) (numbers_of before)
  pub reads : told_reads now ≡ option_map (reads_by calls) (told_reads before)

-- one of the two calls failed; an empty content is not read
pub record FailsToOpen (len : ℕ) (before now : Option Told) (power power_now : Power) (faults faults_now cuts cuts_now : ℕ) : Type 0 where
  pub call : ℕ
  pub cause : Cause
  pub low : 1 ≤ call
  pub high : call ≤ 2
  pub not_empty : call ≡ 2 → 1 ≤ len
  pub reason : cause ≡ refusal_cause call power
  pub power_is : power_now ≡ power_after power
  pub whole_state : now ≡ option_map (refused_at call) before
  pub counts : AreCounted cause false faults faults_now cuts cuts_now
  pub numbers : numbers_of now ≡ option_map (numbers_refused call cause) (numbers_of before)
  pub reads : told_reads now ≡ option_map (reads_refused call power) (told_reads before)

-- there was no memory, after so many calls
pub record LacksMemory (len : ℕ) (before now : Option Told) (power power_now : Power) (faults faults_now cuts cuts_now : ℕ) : Type 0 where
  pub calls : ℕ
  pub high : calls ≤ 2
  pub not_empty : calls ≡ 2 → 1 ≤ len
  pub stops : StopsOpening calls before now power power_now faults faults_now cuts cuts_now

-- how many calls there are where all is read
abbrev pub calls_of_all : ℕ → ℕ
calls_of_all zero = 1
calls_of_all (suc len) = 2

-- why a log of so many bytes was not opened, which calls were made, and what that did to the counts
abbrev pub IsNoOpen : ℕ → OpenFault → Option Told → Option Told → Power → Power → ℕ → ℕ → ℕ → ℕ → Type 0
IsNoOpen len NoMemory before now power power_now faults faults_now cuts cuts_now = LacksMemory len before now power power_now faults faults_now cuts cuts_now
IsNoOpen len Failed before now power power_now faults faults_now cuts cuts_now = FailsToOpen len before now power power_now faults faults_now cuts cuts_now × Rose faults faults_now
IsNoOpen len (Damaged place) before now power power_now faults faults_now cuts cuts_now = StopsOpening (calls_of_all len) before now power power_now faults faults_now cuts cuts_now

-- the place of the damage is told
abbrev pub IsDamage : Option (List ℕ) → OpenFault → Type 0
IsDamage content NoMemory = ⊤
IsDamage content Failed = ⊤
IsDamage content (Damaged place) = IfSome content (λ c. records c ≡ Err place)

-- so many bytes are read, unless there are none
abbrev pub read_or_none : ℕ → Bool → Told → Told
read_or_none len ok t = if len == 0 then t else after_read ok t

-- the read of so many bytes failed
pub record FailsToRead (len : ℕ) (before now : Option Told) (power : Power) (faults faults_now cuts cuts_now : ℕ) : Type 0 where
  pub not_empty : 1 ≤ len
  pub whole_state : now ≡ option_map (after_read false) before
  pub counts : AreCounted (read_cause power) false faults faults_now cuts cuts_now
  pub rose : Rose faults faults_now

-- why the bytes were not read, and what that did
abbrev pub IsNoRead : ℕ → OpenFault → Option Told → Option Told → Power → ℕ → ℕ → ℕ → ℕ → Type 0
IsNoRead len NoMemory before now power faults faults_now cuts cuts_now = (now ≡ before) × AreStill faults faults_now cuts cuts_now
IsNoRead len Failed before now power faults faults_now cuts cuts_now = FailsToRead len before now power faults faults_now cuts cuts_now
IsNoRead len (Damaged place) before now power faults faults_now cuts cuts_now = ⊥
