use Rattle.std.proofs.Common.{sym, subst}
use Rattle.rc_locks.specs.Cells.{IsRising}
use Rattle.rc_locks.proofs.FreeFacts.{rises_none}
use Rattle.rc_locks.proofs.indexed.LocksLockTable.restore.Goals as goal

pub insert_all-requires-clause-rises : goal.insert_all-requires-clause-rises
insert_all-requires-clause-rises c = subst IsRising (sym c.new-table.ensures.items) rises_none
