-- What the calls of a log make of its disk.
use Rattle.std.specs.Prelude.{ℕ, zero, suc, ◌≡◌, ◌⊎◌, ◌+◌, ◌-◌, ◌<◌, ◌≤◌, ◌==◌, ◌&&◌, ◌||◌, nat_le, Bool, false, if◌then◌else◌, List, [], ◌∷◌, ◌++◌, Option, Some, IfSome, IsTrue, Ok, Err, Result}
use Rattle.std.specs.Option.{option_map, ForSome}
use Rattle.rc_disk.specs.declared.power.Power.{Power}
use Rattle.rc_disk.specs.declared.power.Cause.{Cause}
use Rattle.rc_disk.specs.declared.power.Cause.TheVariants.{ByList, ByCut, WhileOff}
use Rattle.rc_disk.specs.Calls.{Told, Numbers, Call, Writes, Syncs, read_bytes, all_synced, after_done, after_failed, power_after, cause_at, is_on}
use Rattle.rc_disk.specs.Counts.{AreCounted}
use Rattle.rc_disk.specs.Crashes.{IsDurable}
use Rattle.rc_log.specs.Records.{records, size_of, behind_gate}

-- the records of a log, and none of bytes that are none
abbrev pub listed_in : Result (List (List ℕ)) ℕ → List (List ℕ)
listed_in (Ok rs) = rs
listed_in (Err place) = []

abbrev pub listed : List ℕ → List (List ℕ)
listed bytes = listed_in (records bytes)

-- THE CALLS

-- the device calls of an append at a place, in their order
abbrev pub append_calls : ℕ → List ℕ → List Call
append_calls place r = Writes (place + 1) (behind_gate r) ∷ Syncs ∷ Writes place (1 ∷ []) ∷ Syncs ∷ []

abbrev pub create_calls : List Call
create_calls = Writes 0 (0 ∷ []) ∷ Syncs ∷ []

-- all of these calls are done
abbrev pub all_done : List Call → Told → Told
all_done [] t = t
all_done (call ∷ calls) t = all_done calls (after_done call t)

-- the call of this number, counted from 1, fails, and those before it are done
abbrev pub stopped_at : ℕ → List Call → Told → Told
stopped_at zero calls t = t
stopped_at (suc n) [] t = t
stopped_at (suc zero) (call ∷ calls) t = after_failed call t
stopped_at (suc (suc n)) (call ∷ calls) t = stopped_at (suc n) calls (after_done call t)

-- NUMBERS

abbrev pub numbers_of : Option Told → Option Numbers
numbers_of told = option_map (λ (t : Told). t.numbers) told

-- so many calls more, all of them done
abbrev pub counted_by : ℕ → Numbers → Numbers
counted_by calls n = record { calls = n.calls + calls; failed = n.failed }

-- so many calls more, the last of them failed
abbrev pub stopped_by : ℕ → Cause → Numbers → Numbers
stopped_by calls cause n = record { calls = n.calls + calls; failed = n.failed ++ record { number = n.calls + calls; cause = cause } ∷ [] }

-- POWER

-- the power after so many calls
abbrev pub power_past : ℕ → Power → Power
power_past zero power = power
power_past (suc calls) power = power_past calls (power_after power)

-- why the call of this number fails, counted from 1
abbrev pub cause_of_call : ℕ → Power → Cause
cause_of_call call power = cause_at (power_past (call - 1) power)

-- WHAT IS LEFT

-- the bytes stand for the records, with one more or without it
abbrev pub IsEither : List (List ℕ) → List ℕ → List ℕ → Type 0
IsEither rs r bytes = (records bytes ≡ Ok rs) ⊎ (records bytes ≡ Ok (rs ++ r ∷ []))

abbrev pub LeavesEither : Option (List (List ℕ)) → List ℕ → List ℕ → Type 0
LeavesEither old r bytes = IfSome old (λ rs. IsEither rs r bytes)

abbrev pub Leaves : Option (List (List ℕ)) → List ℕ → Type 0
Leaves old bytes = IfSome old (λ rs. records bytes ≡ Ok rs)

-- whether an append keeps its record where the call of this number fails: with the last call, or where the power
-- went off after the gate was written and the pick leaves it open
abbrev pub keeps : ℕ → Cause → Bool
keeps call ByList = call == 4
keeps call (ByCut pick) = nat_le 3 call && (pick == 1 || pick == 3)
keeps call WhileOff = call == 4

abbrev pub with_or_without : Bool → List (List ℕ) → List ℕ → List (List ℕ)
with_or_without kept rs r = if kept then rs ++ r ∷ [] else rs

-- a log that is whole up to a closed gate at the place, all of it on the disk
pub record IsSettled (content : Option (List ℕ)) (may_leave : List ℕ → Type 0) (told : Option Told) (len place : ℕ) : Type 0 where
  pub whole : ForSome content (λ c. records c ≡ Ok (listed c))
  pub place_is : ForSome content (λ c. place ≡ size_of (listed c))
  pub inside : place + 1 ≤ len
  pub durable : IsDurable content may_leave
  pub synced : ForSome told (λ t. t.images ≡ all_synced t.images.plain)

-- no count of a disk moved
pub record AreStill (faults faults_now cuts cuts_now : ℕ) : Type 0 where
  pub same_faults : faults_now ≡ faults
  pub same_cuts : cuts_now ≡ cuts

-- a call of an append at the place failed, and the power held at those before it
pub record FailedAt (before now : Option Told) (power power_now : Option Power) (old : Option (List (List ℕ))) (place : ℕ) (r : List ℕ) (faults faults_now cuts cuts_now : ℕ) : Type 0 where
  pub call : ℕ
  pub cause : Cause
  pub low : 1 ≤ call
  pub high : call ≤ 4
  pub reason : option_map (cause_of_call call) power ≡ Some cause
  pub held : IfSome power (λ p. 1 < call → IsTrue (is_on (power_past (call - 1) p)))
  pub power_is : power_now ≡ option_map (power_past call) power
  pub whole_state : now ≡ option_map (stopped_at call (append_calls place r)) before
  pub counts : AreCounted cause false faults faults_now cuts cuts_now
  pub numbers : numbers_of now ≡ option_map (stopped_by call cause) (numbers_of before)
  pub kept : IfSome now (λ t. IfSome old (λ rs. records (read_bytes t) ≡ Ok (with_or_without (keeps call cause) rs r)))
