use Rattle.std.proofs.Common.{◌≡◌, ◌+◌, ℕ, List, drop}
use Rattle.rc_locks.specs.Places.{place_where}
use Rattle.std.specs.Ordering.{is_eq, nat_cmp}
use Rattle.rc_body.specs.declared.entry.Entry.{Entry}
use Rattle.rc_locks.proofs.parts.first_of.Given as goal

abbrev pub invariant-loop-place : goal.invariant-loop-place
invariant-loop-place l =
    l.place + place_where (λ (p : ℕ × List Entry). is_eq (nat_cmp l.tx p.0)) (drop l.place l.parts) ≡ place_where (λ (p : ℕ × List Entry). is_eq (nat_cmp l.tx p.0)) l.parts
