use Rattle.std.proofs.Common.{◌≡◌}
use Rattle.rc_protocol.specs.Shard.{holder}
use Rattle.rc_plain_shard.proofs.parts.holder.Given as goal

abbrev pub invariant-loop-tx : goal.invariant-loop-tx
invariant-loop-tx l = holder l.tx-iterator l.key ≡ holder l.parts l.key
