-- Sets of small numbers: marks, one for each number, and the rising list of the marked ones.
use Rattle.std.specs.Prelude.{ℕ, zero, suc, ◌≤◌, ⊤, Bool, cond, List, [], ◌∷◌}
use Rattle.std.specs.Ordering.{nat_cmp}
use Rattle.rc_ids.specs.Tables.{member}

-- the numbers that are marked, where the first mark is that of n
abbrev pub marked : ℕ → List Bool → List ℕ
marked n [] = []
marked n (mark ∷ marks) = cond mark (n ∷ marked (suc n) marks) (marked (suc n) marks)

-- the marks of so many numbers from n on
abbrev pub marks_of : ℕ → ℕ → List ℕ → List Bool
marks_of n zero set = []
marks_of n (suc count) set = member nat_cmp set n ∷ marks_of (suc n) count set

-- the list rises, from low to high
abbrev pub IsRisingWithin : ℕ → ℕ → List ℕ → Type 0
IsRisingWithin low high [] = ⊤
IsRisingWithin low high (x ∷ xs) = (low ≤ x) × (x ≤ high) × IsRisingWithin (suc x) high xs
