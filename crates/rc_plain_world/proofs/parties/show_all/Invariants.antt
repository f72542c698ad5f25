use Rattle.std.proofs.Common.{◌≡◌, ◌++◌, ◌-◌}
use Rattle.std.specs.List.{flat_map}
use Rattle.rc_ids.specs.Tables.{up_to}
use Rattle.rc_plain_world.specs.Hosts.{shard_nodes}
use Rattle.rc_plain_world.specs.Lines.{shown_at}
use Rattle.rc_plain_world.proofs.parties.show_all.Given as goal

abbrev pub invariant-loop-shard : goal.invariant-loop-shard
invariant-loop-shard l = l.lines ≡ l.initial.lines ++ flat_map (shown_at l.cluster (shard_nodes l.shards) l.dc) (up_to (l.shard - 1))
