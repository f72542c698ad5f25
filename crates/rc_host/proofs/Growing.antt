-- What a disk told before a log on it was opened is told still after it.
use Rattle.std.proofs.Common.{◌≡◌, ℕ, zero, suc, ◌-◌, ◌^◌, ◌≤◌, ◌<◌, List, [], ◌∷◌, ◌++◌, Option, Some, None, option_map, IfSome, ◌∙◌, subst, arith, true, append_assoc}
use Rattle.rc_ports.specs.Causes.{raised}
use Rattle.rc_disk.specs.declared.power.Power.{Power}
use Rattle.rc_disk.specs.declared.power.Power.TheVariants.{On, Armed, Off}
use Rattle.rc_disk.specs.Calls.{Told, Reads, read_failed, power_after, cause_at, powered as powered_disk}
use Rattle.rc_log.specs.Opening.{opened_by, refused_at, synced_and_read, IsNoOpen, calls_of_all}
use Rattle.rc_log.specs.declared.fault.OpenFault.{OpenFault}
use Rattle.rc_log.specs.declared.fault.OpenFault.TheVariants.{NoMemory, Failed, Damaged}
use Rattle.rc_devices.specs.Disks.{ReadsAreKept, IsKept}
use Rattle.rc_devices.proofs.ReadNumbers.{all_above_less}
use Rattle.rc_devices.proofs.Staying.{one_read_more, calls_stay, fault_stays, reads_stay}

-- the count before one read more
fewer : (made : ℕ) → raised made < 2 ^ 64 - 1 → made ≤ raised made
fewer made left = let e = one_read_more made left in omega (arith, e)

left_before : (made : ℕ) → raised made < 2 ^ 64 - 1 → made < 2 ^ 64 - 1
left_before made left = let e = one_read_more made left in omega (arith, e, left)

failed_read_stays : (made : ℕ) (failed ended : List ℕ) → raised made < 2 ^ 64 - 1 → ReadsAreKept (raised made) (failed ++ raised made ∷ []) ended → ReadsAreKept made failed ended
failed_read_stays made failed ended left kept = record {
  since = raised made ∷ kept.since;
  all = kept.all ∙ append_assoc failed (raised made ∷ []) kept.since;
  above = (let e = one_read_more made left in omega (arith, e), all_above_less made (raised made) kept.since kept.above (fewer made left));
}

failed_reads_stay : (power : Power) (r : Reads) (ended : List ℕ) → (read_failed power r).made < 2 ^ 64 - 1 → ReadsAreKept (read_failed power r).made (read_failed power r).failed ended → ReadsAreKept r.made r.failed ended
failed_reads_stay On r ended left kept = failed_read_stays r.made r.failed ended left kept
failed_reads_stay (Armed k pick) r ended left kept = failed_read_stays r.made r.failed ended left kept
failed_reads_stay Off r ended left kept = reads_stay r.made (raised r.made) r.failed ended (fewer r.made left) kept

left_before_failed : (power : Power) (r : Reads) → (read_failed power r).made < 2 ^ 64 - 1 → r.made < 2 ^ 64 - 1
left_before_failed On r left = left_before r.made left
left_before_failed (Armed k pick) r left = left_before r.made left
left_before_failed Off r left = left_before r.made left

opened_stays : (n : ℕ) (t ended : Told) → IsKept (opened_by n t) ended → IsKept t ended
opened_stays zero t ended kept = kept
opened_stays (suc zero) t ended kept = record { calls = calls_stay t.numbers.calls 1 t.numbers.failed ended.numbers.failed kept.calls; reads = kept.reads; left = kept.left }
opened_stays (suc (suc n)) t ended kept = record {
  calls = calls_stay t.numbers.calls 1 t.numbers.failed ended.numbers.failed kept.calls;
  reads = reads_stay t.reads.made (raised t.reads.made) t.reads.failed ended.reads.failed (fewer t.reads.made kept.left) kept.reads;
  left = left_before t.reads.made kept.left;
}

refused_stays : (n : ℕ) (t ended : Told) → IsKept (refused_at n t) ended → IsKept t ended
refused_stays zero t ended kept = kept
refused_stays (suc zero) t ended kept = record { calls = fault_stays t.numbers.calls 1 t.numbers.failed ended.numbers.failed (cause_at t.power) (omega arith) kept.calls; reads = kept.reads; left = kept.left }
refused_stays (suc (suc n)) t ended kept = record {
  calls = calls_stay t.numbers.calls 1 t.numbers.failed ended.numbers.failed kept.calls;
  reads = failed_reads_stay (power_after t.power) t.reads ended.reads.failed kept.left kept.reads;
  left = left_before_failed (power_after t.power) t.reads kept.left;
}

-- over disks that tell what they tell, if they do
abbrev pub Stays : Option Told → Option Told → Told → Type 0
Stays before now ended = IfSome now (λ t. IsKept t ended) → IfSome before (λ t. IsKept t ended)

pub stays_by : (step : Told → Told) → ((t ended : Told) → IsKept (step t) ended → IsKept t ended) → (before now : Option Told) (ended : Told) → now ≡ option_map step before → Stays before now ended
stays_by step law None now ended now_is kept = tt
stays_by step law (Some t) now ended now_is kept = law t ended (subst (λ (o : Option Told). IfSome o (λ u. IsKept u ended)) now_is kept)

-- the power of a disk is on again
pub power_stays : (before on : Option Told) (ended : Told) → on ≡ option_map powered_disk before → Stays before on ended
power_stays before on ended on_is = stays_by powered_disk (λ t e kept. record { calls = kept.calls; reads = kept.reads; left = kept.left }) before on ended on_is

-- a log is opened
pub opening_stays : (before now : Option Told) (ended : Told) → now ≡ option_map (synced_and_read true) before → Stays before now ended
opening_stays before now ended now_is = stays_by (synced_and_read true) (opened_stays 2) before now ended now_is

-- or it is not
pub no_opening_stays : (fault : OpenFault) (len : ℕ) (before now : Option Told) (ended : Told) (power power_now : Power) (faults faults_now cuts cuts_now : ℕ)
    → IsNoOpen len fault before now power power_now faults faults_now cuts cuts_now → Stays before now ended
no_opening_stays NoMemory len before now ended power power_now faults faults_now cuts cuts_now lacks = stays_by (opened_by lacks.calls) (opened_stays lacks.calls) before now ended lacks.stops.whole_state
no_opening_stays Failed len before now ended power power_now faults faults_now cuts cuts_now fails = stays_by (refused_at fails.0.call) (refused_stays fails.0.call) before now ended fails.0.whole_state
no_opening_stays (Damaged place) len before now ended power power_now faults faults_now cuts cuts_now stops = stays_by (opened_by (calls_of_all len)) (opened_stays (calls_of_all len)) before now ended stops.whole_state

-- with the power on before that
pub told_stays : (before on now : Option Told) (ended : Told) → on ≡ option_map powered_disk before → now ≡ option_map (synced_and_read true) on → Stays before now ended
told_stays before on now ended on_is now_is kept = power_stays before on ended on_is (opening_stays on now ended now_is kept)

pub refusal_stays : (fault : OpenFault) (len : ℕ) (before on now : Option Told) (ended : Told) (power power_now : Power) (faults faults_now cuts cuts_now : ℕ) → on ≡ option_map powered_disk before
    → IsNoOpen len fault on now power power_now faults faults_now cuts cuts_now → Stays before now ended
refusal_stays fault len before on now ended power power_now faults faults_now cuts cuts_now on_is refused kept =
    power_stays before on ended on_is (no_opening_stays fault len on now ended power power_now faults faults_now cuts cuts_now refused kept)
