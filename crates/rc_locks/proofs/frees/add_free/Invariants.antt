use Rattle.std.proofs.Common.{◌≡◌, ◌≤◌, ◌+◌, ◌++◌, filter, length, drop, vec_len, vec_capacity}
use Rattle.rc_locks.specs.Cells.{is_free_at}
use Rattle.rc_locks.proofs.frees.add_free.Given as goal

abbrev pub invariant-loop-mark : goal.invariant-loop-mark
invariant-loop-mark l =
    (l.freed.items ++ filter (is_free_at l.cells.entries) (drop l.mark-index l.waiting) ≡ l.fn.freed.items ++ filter (is_free_at l.cells.entries) l.waiting)
    × (vec_len l.freed + length (drop l.mark-index l.waiting) ≤ vec_capacity l.freed)
