use Rattle.std.proofs.Common.{◌≡◌, ◌≤◌, ◌+◌, filter, length, drop, vec_len, vec_capacity}
use Rattle.rc_protocol.specs.Shard.{added_all, is_taken}
use Rattle.rc_locks.proofs.marks.add_taken.Given as goal

abbrev pub invariant-loop-mark : goal.invariant-loop-mark
invariant-loop-mark l =
    (added_all l.lost.items (filter (is_taken l.tx l.part) (drop l.mark-index l.plain)) ≡ added_all l.fn.lost.items (filter (is_taken l.tx l.part) l.plain))
    × (vec_len l.lost + length (drop l.mark-index l.plain) ≤ vec_capacity l.lost)
