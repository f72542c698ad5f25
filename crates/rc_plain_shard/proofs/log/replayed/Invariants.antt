use Rattle.std.proofs.Common.{◌≡◌, drop}
use Rattle.rc_record.specs.ShardState.{new_durable}
use Rattle.rc_protocol.specs.Nodes.{shard_replayed}
use Rattle.rc_plain_shard.proofs.log.replayed.Given as goal

abbrev pub invariant-loop-entry : goal.invariant-loop-entry
invariant-loop-entry l = shard_replayed l.durable (drop l.entry-index l.records) ≡ shard_replayed new_durable l.records
