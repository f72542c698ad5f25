use Rattle.std.proofs.Common.{◌≡◌, drop}
use Rattle.rc_locks.specs.Cells.{IsRising, IsIndexed}
use Rattle.rc_locks.specs.LockSets.{parts_left}
use Rattle.rc_locks.proofs.halves.remove_all.Given as goal

abbrev pub invariant-loop-tx : goal.invariant-loop-tx
invariant-loop-tx l =
    (parts_left l.parts.items (drop l.tx-index l.txs) ≡ parts_left l.fn.parts.items l.txs)
    × IsRising l.parts.items × IsIndexed l.parts.items l.cells.entries
