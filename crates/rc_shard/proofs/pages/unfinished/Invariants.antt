use Rattle.std.proofs.Common.{◌≡◌, take}
use Rattle.rc_shard.specs.Rows.{only_finished}
use Rattle.rc_protocol.specs.Shard.{unfinished}
use Rattle.rc_shard.proofs.pages.unfinished.Given as goal

abbrev pub invariant-loop-index : goal.invariant-loop-index
invariant-loop-index l = l.left ≡ unfinished l.home.cluster l.home.shard (only_finished l.finished.table) (take l.index l.page)
