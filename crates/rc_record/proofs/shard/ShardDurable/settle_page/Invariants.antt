use Rattle.std.proofs.Common.{◌≡◌, drop}
use Rattle.rc_record.specs.InOrder.{ended_all}
use Rattle.rc_record.proofs.shard.ShardDurable.settle_page.Given as goal

abbrev pub invariant-loop-index : goal.invariant-loop-index
invariant-loop-index l = ended_all l.self (drop l.index l.page) ≡ ended_all l.initial.self l.page
