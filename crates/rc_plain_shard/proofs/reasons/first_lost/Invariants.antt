use Rattle.std.proofs.Common.{◌≡◌, drop}
use Rattle.rc_protocol.specs.Shard.{first_reason, lost_by}
use Rattle.rc_plain_shard.proofs.reasons.first_lost.Given as goal

abbrev pub invariant-loop-index : goal.invariant-loop-index
invariant-loop-index l = first_reason (lost_by l.lost l.tx) (drop l.index l.part) ≡ first_reason (lost_by l.lost l.tx) l.part
