use Rattle.std.proofs.Common.{◌≡◌, drop}
use Rattle.rc_record.specs.Replay.{shard_from, shard_replay}
use Rattle.rc_record.proofs.replay.replay_shard.Given as goal

abbrev pub invariant-loop-place : goal.invariant-loop-place
invariant-loop-place l =
    shard_from l.fn.node l.cluster l.place (l.format, l.durable) (drop l.place l.log) ≡ shard_replay l.fn.node l.cluster l.log
