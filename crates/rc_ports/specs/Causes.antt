-- A refusal and the count of faults that tells it.
use Rattle.std.specs.Prelude.{ℕ, ◌+◌, ◌-◌, ◌^◌, ◌≤◌, ◌==◌, Bool, List, min, Result, OnErr}
use Rattle.std.specs.List.{list_any}

-- a count of 64 bits that grew by n: it stands at its last value
abbrev pub total : ℕ → ℕ → ℕ
total count n = min (count + n) (2 ^ 64 - 1)

-- the count after one more
abbrev pub raised : ℕ → ℕ
raised count = total count 1

-- the count rose by so many at least, or stands at its last value
abbrev pub AtLeast : ℕ → ℕ → ℕ → Type 0
AtLeast before more now = total before more ≤ now

-- the count rose, or stands at its last value
abbrev pub Rose : ℕ → ℕ → Type 0
Rose before now = min (before + 1) (2 ^ 64 - 1) ≤ now

-- the count never falls, and where the call failed it rose
pub record HasCause {T E : Type 0} (before now : ℕ) (result : Result T E) : Type 0 where
  pub later : before ≤ now
  pub failed : OnErr result (Rose before now)

-- the number is in the list
abbrev pub is_listed : List ℕ → ℕ → Bool
is_listed numbers n = list_any (λ x. x == n) numbers
