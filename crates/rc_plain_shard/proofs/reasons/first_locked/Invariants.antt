use Rattle.std.proofs.Common.{◌≡◌, drop}
use Rattle.rc_protocol.specs.Shard.{first_reason, locked}
use Rattle.rc_plain_shard.proofs.reasons.first_locked.Given as goal

abbrev pub invariant-loop-index : goal.invariant-loop-index
invariant-loop-index l = first_reason (locked l.parts) (drop l.index l.part) ≡ first_reason (locked l.parts) l.part
