-- The records that a log was opened with are those counted, and how far an opening went that was refused.
use Rattle.std.proofs.Common.{◌≡◌, ℕ, zero, suc, ◌+◌, ◌≤◌, ◌==◌, Bool, true, false, if◌then◌else◌, List, length, Option, None, Some, IfSome, option_map, Ok, refl, sym, ap, ◌∙◌, subst, arith}
use Rattle.std.specs.Option.{ForSome}
use Rattle.std.proofs.lemmas.Bool.Decides.{nat_tests}
use Rattle.rc_ports.specs.Causes.{Rose}
use Rattle.rc_disk.specs.declared.power.Power.{Power}
use Rattle.rc_disk.specs.Calls.{Told, Numbers, Syncs, after_done, after, after_read, read_failed, power_after, cause_at}
use Rattle.rc_disk.specs.Counts.{AreCounted, read_cause}
use Rattle.rc_log.specs.Records.{records}
use Rattle.rc_log.specs.Append.{listed, listed_in, AreStill, numbers_of, counted_by, stopped_by, power_past}
use Rattle.rc_log.specs.Opening.{StopsOpening, FailsToOpen, IsNoOpen, IsNoRead, opened_by, syncs_in, reads_by, told_reads, calls_of_all, read_or_none}
use Rattle.rc_log.specs.Reading.{IsReadFault}
use Rattle.rc_log.specs.declared.fault.OpenFault.{OpenFault}
use Rattle.rc_log.specs.declared.fault.OpenFault.TheVariants.{NoMemory, Failed, Damaged}
use Rattle.rc_log.proofs.Crashes.{same_some}

pub all_counted : (old new : Option (List ℕ)) (rs : List (List ℕ)) → new ≡ old → IfSome old (λ c. records c ≡ Ok rs) → ForSome new (λ c. length rs ≡ length (listed c))
all_counted None new rs same found c is = absurd (cc (same, is))
all_counted (Some d) new rs same found c is =
    let e = same_some d c (sym same ∙ is) in
    subst (λ (l : List ℕ). length rs ≡ length (listed l)) e (ap length (sym (ap listed_in found)))

-- HOW FAR IT WENT

abbrev with_sum : ℕ → Numbers → Numbers
with_sum m n = record { calls = m; failed = n.failed }

plus_none : (n : ℕ) → n ≡ n + 0
plus_none n = omega arith

not_zero : (len : ℕ) → (suc len == 0) ≡ false
not_zero len = grind (arith, nat_tests)

numbers_opened : (calls : ℕ) (o : Option Told) → numbers_of (option_map (opened_by calls) o) ≡ option_map (counted_by (syncs_in calls)) (numbers_of o)
numbers_opened calls None = refl
numbers_opened zero (Some t) = ap (λ (m : ℕ). Some (with_sum m t.numbers)) (plus_none t.numbers.calls)
numbers_opened (suc zero) (Some t) = refl
numbers_opened (suc (suc n)) (Some t) = refl

reads_opened : (calls : ℕ) (o : Option Told) → told_reads (option_map (opened_by calls) o) ≡ option_map (reads_by calls) (told_reads o)
reads_opened calls None = refl
reads_opened zero (Some t) = refl
reads_opened (suc zero) (Some t) = refl
reads_opened (suc (suc n)) (Some t) = refl

-- so many calls were done
pub stops : (calls : ℕ) (before now : Option Told) (p p' : Power) (f f' k k' : ℕ) → now ≡ option_map (opened_by calls) before → p' ≡ power_past (syncs_in calls) p → AreStill f f' k k'
    → StopsOpening calls before now p p' f f' k k'
stops calls before now p p' f f' k k' is past still = record {
  power_is = past;
  whole_state = is;
  counts = still;
  numbers = ap numbers_of is ∙ numbers_opened calls before;
  reads = ap told_reads is ∙ reads_opened calls before;
}

-- where all of so many bytes was read
pub all_read : (len : ℕ) (before synced now : Option Told) → synced ≡ option_map (after Syncs true) before → now ≡ option_map (read_or_none len true) synced → now ≡ option_map (opened_by (calls_of_all len)) before
all_read zero None synced now is next = next ∙ ap (option_map (read_or_none 0 true)) is
all_read zero (Some t) synced now is next = next ∙ ap (option_map (read_or_none 0 true)) is
all_read (suc len) None synced now is next = next ∙ ap (option_map (read_or_none (suc len) true)) is
all_read (suc len) (Some t) synced now is next =
    next ∙ ap (option_map (read_or_none (suc len) true)) is ∙ ap (λ (b : Bool). Some (if b then after_done Syncs t else after_read true (after_done Syncs t))) (not_zero len)

pub one_sync : (len : ℕ) (p : Power) → power_past (syncs_in (calls_of_all len)) p ≡ power_after p
one_sync zero p = refl
one_sync (suc len) p = refl

pub at_most_two : (len : ℕ) → calls_of_all len ≤ 2
at_most_two zero = omega arith
at_most_two (suc len) = omega arith

pub two_if_some : (len : ℕ) → calls_of_all len ≡ 2 → 1 ≤ len
two_if_some zero e = absurd (omega (arith, e))
two_if_some (suc len) e = omega arith

-- the sync failed
pub sync_failed : (len : ℕ) (before now : Option Told) (p p' : Power) (f f' k k' : ℕ) → IfSome before (λ t. t.power ≡ p) → now ≡ option_map (after Syncs false) before → p' ≡ power_after p
    → AreCounted (cause_at p) false f f' k k' → FailsToOpen len before now p p' f f' k k'
sync_failed len None now p p' f f' k k' told_power is past counts = record {
  call = 1;
  cause = cause_at p;
  low = omega arith;
  high = omega arith;
  not_empty = λ e. absurd (omega (arith, e));
  reason = refl;
  power_is = past;
  whole_state = is;
  counts = counts;
  numbers = ap numbers_of is;
  reads = ap told_reads is;
}
sync_failed len (Some t) now p p' f f' k k' told_power is past counts = record {
  call = 1;
  cause = cause_at p;
  low = omega arith;
  high = omega arith;
  not_empty = λ e. absurd (omega (arith, e));
  reason = refl;
  power_is = past;
  whole_state = is;
  counts = counts;
  numbers = ap numbers_of is ∙ ap (λ (q : Power). Some (stopped_by 1 (cause_at q) t.numbers)) told_power;
  reads = ap told_reads is;
}

-- the read failed, after the sync
pub read_failed_then : (len : ℕ) (before synced now : Option Told) (p p' : Power) (f f' k k' : ℕ) → IfSome before (λ t. t.power ≡ p) → synced ≡ option_map (after Syncs true) before → now ≡ option_map (after_read false) synced
    → p' ≡ power_after p → 1 ≤ len → AreCounted (read_cause (power_after p)) false f f' k k' → FailsToOpen len before now p p' f f' k k'
read_failed_then len None synced now p p' f f' k k' told_power is next past some counts = record {
  call = 2;
  cause = read_cause (power_after p);
  low = omega arith;
  high = omega arith;
  not_empty = λ e. some;
  reason = refl;
  power_is = past;
  whole_state = next ∙ ap (option_map (after_read false)) is;
  counts = counts;
  numbers = ap numbers_of (next ∙ ap (option_map (after_read false)) is);
  reads = ap told_reads (next ∙ ap (option_map (after_read false)) is);
}
read_failed_then len (Some t) synced now p p' f f' k k' told_power is next past some counts = record {
  call = 2;
  cause = read_cause (power_after p);
  low = omega arith;
  high = omega arith;
  not_empty = λ e. some;
  reason = refl;
  power_is = past;
  whole_state = next ∙ ap (option_map (after_read false)) is;
  counts = counts;
  numbers = ap numbers_of (next ∙ ap (option_map (after_read false)) is);
  reads = ap told_reads (next ∙ ap (option_map (after_read false)) is) ∙ ap (λ (q : Power). Some (read_failed (power_after q) t.reads)) told_power;
}

-- THE REFUSALS

-- the bytes were not read
pub unread : (e : OpenFault) (len len1 : ℕ) (before synced now : Option Told) (p p1 p' : Power) (f f1 f' k k1 k' : ℕ) → len1 ≡ len → IfSome before (λ t. t.power ≡ p) → synced ≡ option_map (after Syncs true) before → p1 ≡ power_after p → p' ≡ p1
    → AreStill f f1 k k1 → IsNoRead len1 e synced now p1 f1 f' k1 k' → IsNoOpen len e before now p p' f f' k k'
unread NoMemory len len1 before synced now p p1 p' f f1 f' k k1 k' same_len told_power is past same still why = record {
  calls = 1;
  high = omega arith;
  not_empty = λ e. absurd (omega (arith, e));
  stops = stops 1 before now p p' f f' k k' (why.0 ∙ is) (same ∙ past) (record { same_faults = why.1.same_faults ∙ still.same_faults; same_cuts = why.1.same_cuts ∙ still.same_cuts });
}
unread Failed len len1 before synced now p p1 p' f f1 f' k k1 k' same_len told_power is past same still why = (
  read_failed_then len before synced now p p' f f' k k' told_power is why.whole_state (same ∙ past) (subst (λ (n : ℕ). 1 ≤ n) same_len why.not_empty)
      (subst (λ (q : Power). AreCounted (read_cause q) false f f' k k') past
      (subst (λ (a : ℕ). AreCounted (read_cause p1) false a f' k k') still.same_faults (subst (λ (a : ℕ). AreCounted (read_cause p1) false f1 f' a k') still.same_cuts why.counts))),
  subst (λ (a : ℕ). Rose a f') still.same_faults why.rose,
)
unread (Damaged place) len len1 before synced now p p1 p' f f1 f' k k1 k' same_len told_power is past same still why = absurd why

-- the bytes stand for no records
pub unrecorded : (e : OpenFault) (bytes : List ℕ) (len : ℕ) (before now : Option Told) (p p' : Power) (f f' k k' : ℕ) → IsReadFault bytes e → StopsOpening (calls_of_all len) before now p p' f f' k k' → IsNoOpen len e before now p p' f f' k k'
unrecorded NoMemory bytes len before now p p' f f' k k' fault all = record { calls = calls_of_all len; high = at_most_two len; not_empty = two_if_some len; stops = all }
unrecorded Failed bytes len before now p p' f f' k k' fault all = absurd fault
unrecorded (Damaged place) bytes len before now p p' f f' k k' fault all = all

-- all was done
pub all_stops : (len len1 : ℕ) (before synced now : Option Told) (p p1 p' : Power) (f f1 f' k k1 k' : ℕ) → len1 ≡ len → synced ≡ option_map (after Syncs true) before → p1 ≡ power_after p → p' ≡ p1 → AreStill f f1 k k1
    → now ≡ option_map (read_or_none len1 true) synced → AreStill f1 f' k1 k' → StopsOpening (calls_of_all len) before now p p' f f' k k'
all_stops len len1 before synced now p p1 p' f f1 f' k k1 k' same_len is past same still next still_then =
    stops (calls_of_all len) before now p p' f f' k k' (all_read len before synced now is (next ∙ ap (λ (n : ℕ). option_map (read_or_none n true) synced) same_len))
    (same ∙ past ∙ sym (one_sync len p)) (record { same_faults = still_then.same_faults ∙ still.same_faults; same_cuts = still_then.same_cuts ∙ still.same_cuts })
