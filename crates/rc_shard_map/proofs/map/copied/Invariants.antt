use Rattle.std.proofs.Common.{◌≡◌, take}
use Rattle.rc_shard_map.proofs.map.copied.Given as goal

abbrev pub invariant-loop-key : goal.invariant-loop-key
invariant-loop-key l = l.copied.items ≡ take l.key-index l.keys
