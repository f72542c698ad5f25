use Rattle.std.proofs.Common.{◌≡◌, drop}
use Rattle.rc_protocol.specs.Shard.{Mark, added_all}
use Rattle.rc_locks.specs.Flags.{plain_marks, lost_marks, Rises, AreTxs, has_place}
use Rattle.rc_locks.proofs.moves.grant_all.Given as goal

abbrev pub invariant-loop-mark : goal.invariant-loop-mark
invariant-loop-mark l =
    (added_all (plain_marks l.locks.entries) (drop l.mark-index l.granted) ≡ added_all (plain_marks l.fn.locks.entries) l.granted)
    × (lost_marks l.locks.entries ≡ lost_marks l.fn.locks.entries)
    × Rises l.locks.entries × AreTxs l.locks.entries
    × ((m : Mark) → has_place l.locks.entries m ≡ has_place l.fn.locks.entries m)
