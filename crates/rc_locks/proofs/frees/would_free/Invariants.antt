use Rattle.std.proofs.Common.{◌≡◌, ◌++◌, filter, drop}
use Rattle.rc_locks.specs.Cells.{frees_at}
use Rattle.rc_locks.proofs.frees.would_free.Given as goal

abbrev pub invariant-loop-mark : goal.invariant-loop-mark
invariant-loop-mark l =
    l.freed.items ++ filter (frees_at l.cells.entries l.txs) (drop l.mark-index l.waiting) ≡ filter (frees_at l.cells.entries l.txs) l.waiting
