use Rattle.std.proofs.Common.{◌≡◌}
use Rattle.rc_locks.specs.Cells.{IsRising, IsIndexed}
use Rattle.rc_locks.specs.LockSets.{put_all}
use Rattle.rc_locks.proofs.halves.insert_all.Given as goal

abbrev pub invariant-loop-tx : goal.invariant-loop-tx
invariant-loop-tx l =
    (l.parts.items ≡ put_all l.fn.parts.items l.yielded)
    × IsRising l.parts.items × IsIndexed l.parts.items l.cells.entries
