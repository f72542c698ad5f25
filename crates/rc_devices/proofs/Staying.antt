-- What a disk told before a call is told still after it.
use Rattle.std.proofs.Common.{◌≡◌, ℕ, ◌+◌, ◌-◌, ◌^◌, ◌≤◌, ◌<◌, List, [], ◌∷◌, ◌++◌, refl, arith}
use Rattle.rc_ports.specs.Causes.{raised}
use Rattle.rc_disk.specs.declared.power.Cause.{Cause}
use Rattle.rc_disk.specs.declared.power.Failure.{Failure}
use Rattle.rc_devices.specs.Disks.{AreKept, ReadsAreKept}
use Rattle.rc_devices.proofs.Numbers.{above_less}
use Rattle.rc_devices.proofs.ReadNumbers.{all_above_less}
use Rattle.rc_devices.proofs.Rows.{failure, kept_before}

pub calls_stay : (calls more : ℕ) (failed ended : List Failure) → AreKept (calls + more) failed ended → AreKept calls failed ended
calls_stay calls more failed ended kept = record { since = kept.since; all = kept.all; above = above_less calls (calls + more) kept.since kept.above (omega arith) }

pub fault_stays : (calls more : ℕ) (failed ended : List Failure) (cause : Cause) → 1 ≤ more → AreKept (calls + more) (failed ++ failure (calls + more) cause ∷ []) ended → AreKept calls failed ended
fault_stays calls more failed ended cause some kept = kept_before calls (calls + more) failed ended (failure (calls + more) cause) refl (omega (arith, some)) kept

-- a count of reads that is not full after one more rose by one
pub one_read_more : (made : ℕ) → raised made < 2 ^ 64 - 1 → raised made ≡ made + 1
one_read_more made left = grind arith

pub reads_stay : (made now : ℕ) (failed ended : List ℕ) → made ≤ now → ReadsAreKept now failed ended → ReadsAreKept made failed ended
reads_stay made now failed ended low kept = record { since = kept.since; all = kept.all; above = all_above_less made now kept.since kept.above low }
