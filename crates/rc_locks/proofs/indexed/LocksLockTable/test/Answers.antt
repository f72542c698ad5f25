use Rattle.std.proofs.Common.{refl, ap}
use Rattle.rc_protocol.specs.Shard.{ShardVolatile}
use Rattle.rc_locks.specs.Flags.{plain_marks, lost_marks}
use Rattle.rc_locks.specs.LockSets.{answer_of}
use Rattle.rc_locks.proofs.indexed.LocksLockTable.test.Goals as goal

pub returns-in-Some : goal.returns-in-Some
returns-in-Some c =
    let locks = c.args.self.now in
    let v : ShardVolatile = record { plain = plain_marks locks.marks.entries; lost = lost_marks locks.marks.entries; waiting = locks.waiting.items; cursor = 0 } in
    ap answer_of (c.in-Some.ensures locks.parts.items v locks.indexed refl)

pub returns-in-None : goal.returns-in-None
returns-in-None c =
    let locks = c.args.self.now in
    let v : ShardVolatile = record { plain = plain_marks locks.marks.entries; lost = lost_marks locks.marks.entries; waiting = locks.waiting.items; cursor = 0 } in
    ap answer_of (c.in-None.ensures locks.parts.items v locks.indexed refl)
