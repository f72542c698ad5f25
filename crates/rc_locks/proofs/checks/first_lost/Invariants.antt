use Rattle.std.proofs.Common.{◌≡◌, drop}
use Rattle.rc_protocol.specs.Shard.{first_reason, lost_by}
use Rattle.rc_locks.specs.Flags.{lost_marks}
use Rattle.rc_locks.proofs.checks.first_lost.Given as goal

abbrev pub invariant-loop-index : goal.invariant-loop-index
invariant-loop-index l = first_reason (lost_by (lost_marks l.locks.entries) l.tx) (drop l.index l.part) ≡ first_reason (lost_by (lost_marks l.locks.entries) l.tx) l.part
