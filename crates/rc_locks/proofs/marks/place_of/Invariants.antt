use Rattle.std.proofs.Common.{◌≡◌, ◌+◌, drop}
use Rattle.rc_protocol.specs.Shard.{Mark, mark_cmp}
use Rattle.rc_locks.specs.Places.{place_where}
use Rattle.std.specs.Ordering.{is_le}
use Rattle.rc_locks.proofs.marks.place_of.Given as goal

abbrev pub invariant-loop-place : goal.invariant-loop-place
invariant-loop-place l =
    l.place + place_where (λ (m : Mark). is_le (mark_cmp l.mark m)) (drop l.place l.marks) ≡ place_where (λ (m : Mark). is_le (mark_cmp l.mark m)) l.marks
