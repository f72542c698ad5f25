-- What a disk told before a node began on it is told still after that.
use Rattle.std.proofs.Common.{◌≡◌, ℕ, ◌+◌, Option, option_map, IfSome, Result, Ok, Err, IfOk, IfErr, subst, arith}
use Rattle.rc_disk.specs.declared.power.Power.{Power}
use Rattle.rc_disk.specs.Calls.{Told}
use Rattle.rc_log.specs.Append.{create_calls, all_done}
use Rattle.rc_log.specs.Opening.{IsNoBegin}
use Rattle.rc_log.specs.declared.fault.OpenFault.{OpenFault}
use Rattle.rc_log.specs.declared.fault.OpenFault.TheVariants.{NoMemory, Failed, Damaged}
use Rattle.rc_devices.specs.Disks.{IsKept}
use Rattle.rc_devices.proofs.Numbers.{above_less}
use Rattle.rc_host.proofs.Growing.{Stays, stays_by}
use Rattle.rc_host.proofs.Beginning.{stopped_stays}

-- A LOG THAT WAS CREATED
two_more : (t ended : Told) → IsKept (all_done create_calls t) ended → IsKept t ended
two_more t ended kept = record {
  calls = record { since = kept.calls.since; all = kept.calls.all; above = above_less t.numbers.calls (t.numbers.calls + 1 + 1) kept.calls.since kept.calls.above (omega arith) };
  reads = kept.reads;
  left = kept.left;
}

pub created_stays : (before now : Option Told) (ended : Told) → now ≡ option_map (all_done create_calls) before → Stays before now ended
created_stays before now ended now_is = stays_by (all_done create_calls) two_more before now ended now_is

-- one that was not
pub not_created_stays : (fault : OpenFault) (before now : Option Told) (ended : Told) (power power_now : Power) (faults faults_now cuts cuts_now : ℕ)
    → IsNoBegin fault before now power power_now faults faults_now cuts cuts_now → Stays before now ended
not_created_stays NoMemory before now ended power power_now faults faults_now cuts cuts_now refused kept = subst (λ (o : Option Told). IfSome o (λ t. IsKept t ended)) refused.0 kept
not_created_stays Failed before now ended power power_now faults faults_now cuts cuts_now refused kept =
    stopped_stays refused.0.call refused.0.cause create_calls before now ended refused.0.low refused.0.whole_state refused.0.numbers kept
not_created_stays (Damaged place) before now ended power power_now faults faults_now cuts cuts_now refused kept = absurd refused

-- WHAT IS TOLD OF ITS LOG is told of the disk
pub grew_as : {A E : Type 0} (r : Result A E) (P : A → Told → Type 0) (K L : Told → Type 0) → ((ended : Told) → K ended → L ended) → IfOk r (λ a. (ended : Told) → P a ended → K ended) → IfOk r (λ a. (ended : Told) → P a ended → L ended)
grew_as (Ok a) P K L step grew = λ ended told. step ended (grew ended told)
grew_as (Err e) P K L step grew = tt

pub grew_err_as : {A E : Type 0} (r : Result A E) (P : E → Told → Type 0) (K L : Told → Type 0) → ((ended : Told) → K ended → L ended) → IfErr r (λ e. (ended : Told) → P e ended → K ended) → IfErr r (λ e. (ended : Told) → P e ended → L ended)
grew_err_as (Ok a) P K L step grew = tt
grew_err_as (Err e) P K L step grew = λ ended told. step ended (grew ended told)
