use Rattle.std.proofs.Common.{◌≡◌, drop}
use Rattle.rc_protocol.specs.Shard.{first_reason, stale}
use Rattle.rc_plain_shard.proofs.reasons.first_stale.Given as goal

abbrev pub invariant-loop-index : goal.invariant-loop-index
invariant-loop-index l = first_reason (stale l.rows) (drop l.index l.part) ≡ first_reason (stale l.rows) l.part
