use Rattle.std.proofs.Common.{◌≡◌, ◌++◌, map}
use Rattle.rc_ids.specs.declared.names.NodeId.TheVariants.{Shard as ShardServer}
use Rattle.rc_plain_shard.specs.Shown.{row_of}
use Rattle.rc_plain_shard.proofs.shown.push_rows.Given as goal

abbrev pub invariant-loop-key : goal.invariant-loop-key
invariant-loop-key l = l.lines ≡ l.initial.lines ++ map (row_of (ShardServer l.dc l.shard) l.durable) l.yielded
