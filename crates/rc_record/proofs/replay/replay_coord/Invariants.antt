use Rattle.std.proofs.Common.{◌≡◌, drop}
use Rattle.rc_record.specs.Replay.{coord_from, coord_replay}
use Rattle.rc_record.proofs.replay.replay_coord.Given as goal

abbrev pub invariant-loop-place : goal.invariant-loop-place
invariant-loop-place l =
    coord_from l.fn.node l.cluster l.place (l.format, l.durable) (drop l.place l.log) ≡ coord_replay l.fn.node l.cluster l.log
