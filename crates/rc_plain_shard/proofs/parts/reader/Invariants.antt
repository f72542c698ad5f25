use Rattle.std.proofs.Common.{◌≡◌}
use Rattle.rc_protocol.specs.Shard.{reader}
use Rattle.rc_plain_shard.proofs.parts.reader.Given as goal

abbrev pub invariant-loop-tx : goal.invariant-loop-tx
invariant-loop-tx l = reader l.tx-iterator l.key ≡ reader l.parts l.key
