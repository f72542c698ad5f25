use Rattle.std.proofs.Common.{arith}
use Rattle.rc_locks.proofs.indexed.LocksLockTable.room.Goals as goal

pub returns-clause-ok : goal.returns-clause-ok
returns-clause-ok c = (let room = c.in_ok-reserve.ensures.ok in omega arith, c.in_ok-make_room.ensures.room c.args._tx)
