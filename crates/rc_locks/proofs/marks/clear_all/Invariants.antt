use Rattle.std.proofs.Common.{◌≡◌, ◌≤◌, drop, vec_len, vec_capacity}
use Rattle.rc_locks.specs.LockSets.{cleared_all}
use Rattle.rc_locks.proofs.marks.clear_all.Given as goal

abbrev pub invariant-loop-tx : goal.invariant-loop-tx
invariant-loop-tx l =
    (cleared_all l.marks.items (drop l.tx-index l.txs) ≡ cleared_all l.fn.marks.items l.txs)
    × (vec_len l.marks ≤ vec_len l.fn.marks) × (vec_capacity l.marks ≡ vec_capacity l.fn.marks)
