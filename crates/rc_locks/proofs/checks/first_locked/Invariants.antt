use Rattle.std.proofs.Common.{◌≡◌, ℕ, List, drop}
use Rattle.rc_ids.specs.Tables.{Table}
use Rattle.rc_body.specs.declared.entry.Entry.{Entry}
use Rattle.rc_protocol.specs.Shard.{first_reason, locked}
use Rattle.rc_locks.specs.Cells.{IsIndexed}
use Rattle.rc_locks.proofs.checks.first_locked.Given as goal

abbrev pub invariant-loop-index : goal.invariant-loop-index
invariant-loop-index l =
    (parts : Table ℕ (List Entry)) → IsIndexed parts l.cells.entries → first_reason (locked parts) (drop l.index l.part) ≡ first_reason (locked parts) l.part
