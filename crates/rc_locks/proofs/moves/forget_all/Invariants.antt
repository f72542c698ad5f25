use Rattle.std.proofs.Common.{◌≡◌, ◌≤◌, drop, vec_len}
use Rattle.rc_locks.specs.Flags.{plain_marks, lost_marks, Rises, AreTxs, IsCovered, ArePlaced}
use Rattle.rc_locks.specs.LockSets.{cleared_all}
use Rattle.rc_locks.proofs.moves.forget_all.Given as goal

abbrev pub invariant-loop-tx : goal.invariant-loop-tx
invariant-loop-tx l =
    (cleared_all (plain_marks l.locks.entries) (drop l.tx-index l.txs) ≡ cleared_all (plain_marks l.fn.locks.entries) l.txs)
    × (cleared_all (lost_marks l.locks.entries) (drop l.tx-index l.txs) ≡ cleared_all (lost_marks l.fn.locks.entries) l.txs)
    × (cleared_all l.waiting.items (drop l.tx-index l.txs) ≡ cleared_all l.fn.waiting.items l.txs)
    × (vec_len l.waiting ≤ vec_len l.fn.waiting)
    × Rises l.locks.entries × AreTxs l.locks.entries × IsCovered l.locks.entries l.index.entries
    × ArePlaced l.waiting.items l.locks.entries
