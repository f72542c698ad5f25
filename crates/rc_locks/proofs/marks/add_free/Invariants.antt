use Rattle.std.proofs.Common.{◌≡◌, ◌≤◌, ◌+◌, ◌++◌, filter, length, drop, vec_len, vec_capacity}
use Rattle.rc_protocol.specs.Shard.{is_free}
use Rattle.rc_locks.proofs.marks.add_free.Given as goal

abbrev pub invariant-loop-mark : goal.invariant-loop-mark
invariant-loop-mark l =
    (l.freed.items ++ filter (is_free l.parts) (drop l.mark-index l.waiting) ≡ l.fn.freed.items ++ filter (is_free l.parts) l.waiting)
    × (vec_len l.freed + length (drop l.mark-index l.waiting) ≤ vec_capacity l.freed)
    × (vec_len l.freed + length (drop l.mark-index l.waiting) ≤ vec_len l.fn.freed + length l.waiting)
