-- What an append of a node asks of its disk.
use Rattle.std.specs.Prelude.{◌≡◌, ℕ, ◌+◌, ◌≤◌, Some, IsTrue}
use Rattle.rc_disk.specs.declared.power.Cause.{Cause}
use Rattle.rc_disk.specs.declared.power.Cause.TheVariants.{ByList, ByCut, WhileOff}
use Rattle.rc_runs.specs.Devices.{Device, Fate, Made, Full, FailsAt, is_number, is_too_long, appended}

-- the call with this number from now on fails: it is one of the listed ones, or the armed cut falls there
abbrev pub Fails : Device → ℕ → Cause → Type 0
Fails d at ByList = IsTrue (is_number (d.calls + at) d.failing)
Fails d at (ByCut pick) = d.cut ≡ Some (at, pick)
Fails d at WhileOff = ⊥

-- an append that is made is four calls, one that fails as many as up to the call that failed, and one that finds its log full none
abbrev pub MakesCalls : Device → ℕ → Fate → Device → Type 0
MakesCalls d len Made after = after.calls ≡ d.calls + 4
MakesCalls d len Full after = (after.calls ≡ d.calls) × IsTrue (is_too_long d len)
MakesCalls d len (FailsAt at cause) after = (after.calls ≡ d.calls + at) × (1 ≤ at) × (at ≤ 4) × Fails d at cause

-- so from the calls that failed it follows which append failed. That such a call was the first that failed is not said here
abbrev pub AppendsAreTold : Device → Type 0
AppendsAreTold d = (len : ℕ) → MakesCalls d len (appended d len).0 (appended d len).1
