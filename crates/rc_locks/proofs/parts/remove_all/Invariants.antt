use Rattle.std.proofs.Common.{◌≡◌, drop}
use Rattle.rc_locks.specs.LockSets.{parts_left}
use Rattle.rc_locks.proofs.parts.remove_all.Given as goal

abbrev pub invariant-loop-tx : goal.invariant-loop-tx
invariant-loop-tx l =
    parts_left l.parts.items (drop l.tx-index l.txs) ≡ parts_left l.fn.parts.items l.txs
