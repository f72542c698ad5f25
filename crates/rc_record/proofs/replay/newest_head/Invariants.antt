use Rattle.std.proofs.Common.{◌≡◌, ◌-◌, None, drop, length}
use Rattle.rc_record.specs.Replay.{newest_head}
use Rattle.rc_record.proofs.replay.newest_head.Given as goal

abbrev pub invariant-loop-behind : goal.invariant-loop-behind
invariant-loop-behind l = newest_head (drop (length l.log - l.behind) l.log) ≡ None
