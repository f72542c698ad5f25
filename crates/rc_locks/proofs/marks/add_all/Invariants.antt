use Rattle.std.proofs.Common.{◌≡◌, ◌≤◌, ◌+◌, length, drop, vec_len, vec_capacity}
use Rattle.rc_protocol.specs.Shard.{added_all}
use Rattle.rc_locks.proofs.marks.add_all.Given as goal

abbrev pub invariant-loop-mark : goal.invariant-loop-mark
invariant-loop-mark l =
    (added_all l.marks.items (drop l.mark-index l.more) ≡ added_all l.fn.marks.items l.more)
    × (vec_len l.marks + length (drop l.mark-index l.more) ≤ vec_capacity l.marks)
