use Rattle.std.proofs.Common.{◌≡◌, drop}
use Rattle.rc_record.specs.ShardState.{settled_all}
use Rattle.rc_plain_shard.proofs.durable.Durable.settle_page.Given as goal

abbrev pub invariant-loop-index : goal.invariant-loop-index
invariant-loop-index l = settled_all l.self (drop l.index l.page) ≡ settled_all l.initial.self l.page
