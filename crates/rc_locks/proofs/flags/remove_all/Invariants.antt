use Rattle.std.proofs.Common.{◌≡◌, drop}
use Rattle.rc_ids.specs.Tables.{found}
use Rattle.rc_protocol.specs.Shard.{Mark, mark_cmp}
use Rattle.rc_locks.specs.Flags.{Rises, let_go}
use Rattle.rc_locks.proofs.flags.remove_all.Given as goal

abbrev pub invariant-loop-key : goal.invariant-loop-key
invariant-loop-key l =
    Rises l.locks.entries
    × ((m : Mark) → let_go l.tx m (drop l.key-index l.keys) (found mark_cmp l.locks.entries m) ≡ let_go l.tx m l.keys (found mark_cmp l.fn.locks.entries m))
