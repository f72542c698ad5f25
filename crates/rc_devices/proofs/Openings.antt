-- Cuts, openings and creations, as a device makes them.
use Rattle.std.proofs.Common.{◌≡◌, ℕ, zero, suc, ◌+◌, ◌-◌, ◌^◌, ◌≤◌, ◌<◌, List, [], ◌∷◌, ◌++◌, refl, sym, ap, ◌∙◌, subst, Bool, true, false, cond, Option, Some, None, option_map, IsTrue, arith}
use Rattle.std.specs.Prelude.{◌||◌}
use Rattle.std.proofs.lemmas.Bool.{eq-eqb}
use Rattle.rc_ids.specs.Tables.{maybe}
use Rattle.rc_ports.specs.Causes.{raised}
use Rattle.rc_disk.specs.declared.power.Power.{Power}
use Rattle.rc_disk.specs.declared.power.Power.TheVariants.{On, Armed}
use Rattle.rc_disk.specs.declared.power.Cause.{Cause}
use Rattle.rc_disk.specs.Calls.{Told, Numbers, Reads, is_on, cause_at, read_failed, armed as armed_disk}
use Rattle.rc_disk.specs.Places.{Start}
use Rattle.rc_log.specs.Append.{counted_by, stopped_by, power_past, cause_of_call}
use Rattle.rc_log.specs.Opening.{synced_and_read, numbers_refused, reads_refused, refusal_cause}
use Rattle.rc_runs.specs.Devices.{Device, is_number, called, read_fails, read_once, opened}
use Rattle.rc_runs.specs.Farms.{reads_at}
use Rattle.rc_devices.specs.Disks.{AllWithin, AreKept, ReadsAreKept, IsKept, IsShown, ReadsAreShown, IsDisk, calls_made}
use Rattle.rc_devices.specs.Laws.{CutsAreDevices, OpeningsAreDevices, CreationsAreDevices}
use Rattle.rc_devices.proofs.ReadNumbers.{reads_are, number_in_both, number_not_within, number_not_above, all_within_more}
use Rattle.rc_devices.proofs.Rows.{no_fault, next_is_told, called_shown, all_made, failure}
use Rattle.rc_devices.proofs.Appends.{some_inj, stops}
use Rattle.rc_devices.proofs.Staying.{one_read_more}

pub cuts_are_devices : (begun : Start) (ended : Told) (d : Device) → CutsAreDevices begun ended d
cuts_are_devices begun ended d = record {
  arms = λ log is k pick.
      record {
        told = armed_disk k pick is.told;
        tells = ap (option_map (armed_disk k pick)) is.tells;
        power = Armed k pick;
        has_power = ap (option_map (λ (p : Power). Armed k pick)) is.has_power;
        disk = record {
          calls = record { counted = is.disk.calls.counted; listed = is.disk.calls.listed; within = is.disk.calls.within; power_is = refl };
          reads = record { counted = is.disk.reads.counted; listed = is.disk.reads.listed; within = is.disk.reads.within };
        };
        offset = is.offset;
        limit = is.limit;
      };
  ends = λ told power is.
      record {
        calls = record { counted = is.calls.counted; listed = is.calls.listed; within = is.calls.within; power_is = refl };
        reads = record { counted = is.reads.counted; listed = is.reads.listed; within = is.reads.within };
      };
}

-- READS
next_read : (begun : Start) (ended : List ℕ) (made : ℕ) (failed : List ℕ) (d : Device) → ReadsAreShown begun ended made failed d → read_fails d ≡ is_number (made + 1) ended
next_read begun ended made failed d shown =
    let n : ℕ = d.reads in
    let start : ℕ = reads_at begun in
    let e : start + (n + 1) ≡ made + 1 = let counted : made ≡ start + n = shown.counted in omega arith in
    ap (is_number (d.reads + 1)) shown.listed ∙ reads_are start (n + 1) ended (omega arith) ∙ ap (λ (m : ℕ). is_number m ended) e

no_read_fault : (begun : Start) (ended : List ℕ) (made : ℕ) (failed : List ℕ) (d : Device) → ReadsAreShown begun ended made failed d → ReadsAreKept (made + 1) failed ended → read_fails d ≡ false
no_read_fault begun ended made failed d shown kept =
    next_read begun ended made failed d shown ∙ ap (is_number (made + 1)) kept.all ∙ number_in_both (made + 1) failed kept.since
    ∙ ap (λ b. b || is_number (made + 1) kept.since) (number_not_within made (made + 1) failed shown.within (omega arith)) ∙ number_not_above (made + 1) (made + 1) kept.since kept.above (omega arith)

read_fault : (begun : Start) (ended : List ℕ) (made : ℕ) (failed : List ℕ) (d : Device) → ReadsAreShown begun ended made failed d → ReadsAreKept (made + 1) (failed ++ (made + 1) ∷ []) ended → read_fails d ≡ true
read_fault begun ended made failed d shown kept =
    let n : ℕ = made + 1 in
    next_read begun ended made failed d shown ∙ ap (is_number n) kept.all ∙ number_in_both n (failed ++ n ∷ []) kept.since
    ∙ ap (λ b. b || is_number n kept.since) (number_in_both n failed (n ∷ []) ∙ ap (λ b. b || is_number n (n ∷ [])) (number_not_within made n failed shown.within (omega arith)) ∙ ap (λ b. b || false) (eq-eqb n n refl))

-- OPENINGS
abbrev read_or_not : Device → Bool → Option Device
read_or_not d fails = cond fails None (Some (read_once (called d)))

module _ (begun : Start) (ended told : Told) (d : Device) (is : IsDisk begun ended told On d) where
  pub opens : IsKept (synced_and_read true told) ended → (opened d ≡ Some (read_once (called d))) × IsDisk begun ended (synced_and_read true told) On (read_once (called d))
  opens kept =
      let raises = one_read_more told.reads.made kept.left in
      let none = no_fault begun ended.numbers.failed told.numbers.calls (told.numbers.calls + 1) told.numbers.failed On d is.calls refl (omega arith) kept.calls in
      let reads_kept : ReadsAreKept (told.reads.made + 1) told.reads.failed ended.reads.failed = subst (λ (m : ℕ). ReadsAreKept m told.reads.failed ended.reads.failed) raises kept.reads in
      let reads = no_read_fault begun ended.reads.failed told.reads.made told.reads.failed d is.reads reads_kept in
      let next = called_shown begun ended.numbers.failed told.numbers.calls told.numbers.failed On d is.calls refl in
      let made : ℕ = told.reads.made in
      let count : made + 1 ≡ reads_at begun + (d.reads + 1) = let was : made ≡ reads_at begun + d.reads = is.reads.counted in omega arith in (
        ap (λ (o : Option Cause). maybe o (read_or_not d (read_fails d)) (λ cause. None)) none ∙ ap (read_or_not d) reads,
        record {
          calls = record { counted = next.counted; listed = next.listed; within = next.within; power_is = next.power_is };
          reads = record {
            counted = raises ∙ count;
            listed = is.reads.listed;
            within = subst (λ (m : ℕ). AllWithin m told.reads.failed) (sym raises) (all_within_more told.reads.made (told.reads.made + 1) told.reads.failed is.reads.within (omega arith));
          };
        },
      )

  pub fails_at_sync : (now : Told) (cause : Cause) → cause ≡ cause_at On → now.numbers ≡ stopped_by 1 cause told.numbers → IsKept now ended → opened d ≡ None
  fails_at_sync now cause reason numbers kept =
      let f = failure (told.numbers.calls + 1) in
      let calls : AreKept (told.numbers.calls + 1) (told.numbers.failed ++ f (cause_at On) ∷ []) ended.numbers.failed =
      subst (λ (c : Cause). AreKept (told.numbers.calls + 1) (told.numbers.failed ++ f c ∷ []) ended.numbers.failed) reason (subst (λ (x : Numbers). AreKept x.calls x.failed ended.numbers.failed) numbers kept.calls) in
      ap (λ (o : Option Cause). maybe o (read_or_not d (read_fails d)) (λ cause. None)) (next_is_told begun ended.numbers.failed told.numbers.calls told.numbers.failed On d is.calls calls)

  pub fails_at_read : (now : Told) → now.numbers ≡ counted_by 1 told.numbers → now.reads ≡ read_failed On told.reads → IsKept now ended → opened d ≡ None
  fails_at_read now numbers reads kept =
      let calls : AreKept (told.numbers.calls + 1) told.numbers.failed ended.numbers.failed = subst (λ (x : Numbers). AreKept x.calls x.failed ended.numbers.failed) numbers kept.calls in
      let none = no_fault begun ended.numbers.failed told.numbers.calls (told.numbers.calls + 1) told.numbers.failed On d is.calls refl (omega arith) calls in
      let left : raised told.reads.made < 2 ^ 64 - 1 = subst (λ (x : Reads). x.made < 2 ^ 64 - 1) reads kept.left in
      let reads_kept : ReadsAreKept (told.reads.made + 1) (told.reads.failed ++ (told.reads.made + 1) ∷ []) ended.reads.failed =
      subst (λ (m : ℕ). ReadsAreKept m (told.reads.failed ++ m ∷ []) ended.reads.failed) (one_read_more told.reads.made left) (subst (λ (x : Reads). ReadsAreKept x.made x.failed ended.reads.failed) reads kept.reads) in
      ap (λ (o : Option Cause). maybe o (read_or_not d (read_fails d)) (λ cause. None)) none ∙ ap (read_or_not d) (read_fault begun ended.reads.failed told.reads.made told.reads.failed d is.reads reads_kept)

-- the call that failed is the sync or the read
by_call : (begun : Start) (ended told : Told) (d : Device) → IsDisk begun ended told On d → (now : Told) (call : ℕ) (cause : Cause) → 1 ≤ call → call ≤ 2 → cause ≡ refusal_cause call On
    → now.numbers ≡ numbers_refused call cause told.numbers → now.reads ≡ reads_refused call On told.reads → IsKept now ended → opened d ≡ None
by_call begun ended told d is now zero cause low high reason numbers reads kept = absurd (omega (arith, low))
by_call begun ended told d is now (suc zero) cause low high reason numbers reads kept = fails_at_sync begun ended told d is now cause reason numbers kept
by_call begun ended told d is now (suc (suc n)) cause low high reason numbers reads kept = fails_at_read begun ended told d is now numbers reads kept

pub openings_are_devices : (begun : Start) (ended told : Told) (d : Device) → IsDisk begun ended told On d → OpeningsAreDevices begun ended told d
openings_are_devices begun ended told d is = record {
  done = opens begun ended told d is;
  failed = λ len now power power_now faults faults_now cuts cuts_now on fails kept.
      by_call begun ended told d is now fails.call fails.cause fails.low fails.high (fails.reason ∙ ap (refusal_cause fails.call) on) (some_inj now.numbers (numbers_refused fails.call fails.cause told.numbers) fails.numbers)
      (some_inj now.reads (reads_refused fails.call On told.reads) (fails.reads ∙ ap (λ (p : Power). Some (reads_refused fails.call p told.reads)) on)) kept;
}

-- CREATIONS
past_on : (n : ℕ) → power_past n On ≡ On
past_on zero = refl
past_on (suc n) = past_on n

is_past : (n : ℕ) → IsTrue (is_on (power_past n On))
is_past n = subst (λ (p : Power). IsTrue (is_on p)) (sym (past_on n)) refl

pub creations_are_devices : (begun : Start) (ended told : Told) (d : Device) → IsDisk begun ended told On d → CreationsAreDevices begun ended told d
creations_are_devices begun ended told d is = record {
  done = λ kept.
      let e : told.numbers.calls + 1 + 1 ≡ told.numbers.calls + 2 = omega arith in
      let row = all_made 2 1 begun ended.numbers.failed told.numbers.calls told.numbers.failed On d is.calls refl (subst (λ (m : ℕ). AreKept m told.numbers.failed ended.numbers.failed) e kept.calls) in (
        row.0,
        record {
          calls = subst (λ (m : ℕ). IsShown begun ended.numbers.failed m told.numbers.failed On (calls_made 2 d)) (sym e) row.1;
          reads = record { counted = is.reads.counted; listed = is.reads.listed; within = is.reads.within };
        },
      );
  failed = λ now power power_now faults faults_now cuts cuts_now on fails kept.
      let numbers : now.numbers ≡ stopped_by fails.call fails.cause told.numbers = some_inj now.numbers (stopped_by fails.call fails.cause told.numbers) fails.numbers in
      let reason : cause_at (power_past (fails.call - 1) On) ≡ fails.cause = sym (fails.reason ∙ ap (cause_of_call fails.call) on) in
      stops begun ended.numbers.failed told.numbers.calls told.numbers.failed On d 2 fails.call fails.cause is.calls refl fails.low fails.high reason (λ late. is_past (fails.call - 1))
      (subst (λ (x : Numbers). AreKept x.calls x.failed ended.numbers.failed) numbers kept.calls);
}
