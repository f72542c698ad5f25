use Rattle.std.proofs.Common.{◌≡◌, take}
use Rattle.rc_protocol.specs.Shard.{unfinished}
use Rattle.rc_plain_shard.proofs.pages.unfinished.Given as goal

abbrev pub invariant-loop-index : goal.invariant-loop-index
invariant-loop-index l = l.left ≡ unfinished l.cluster l.shard l.durable (take l.index l.page)
