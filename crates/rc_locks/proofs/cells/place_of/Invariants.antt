use Rattle.std.proofs.Common.{◌≡◌, ◌+◌, ℕ, drop}
use Rattle.rc_locks.specs.Places.{place_where}
use Rattle.std.specs.Ordering.{is_le, nat_cmp}
use Rattle.rc_locks.proofs.cells.place_of.Given as goal

abbrev pub invariant-loop-place : goal.invariant-loop-place
invariant-loop-place l =
    l.place + place_where (λ (t : ℕ). is_le (nat_cmp l.tx t)) (drop l.place l.list) ≡ place_where (λ (t : ℕ). is_le (nat_cmp l.tx t)) l.list
