use Rattle.std.proofs.Common.{◌≡◌, drop}
use Rattle.std.specs.Option.{option_map}
use Rattle.rc_ids.specs.Tables.{found}
use Rattle.rc_protocol.specs.Shard.{Mark, mark_cmp}
use Rattle.rc_locks.specs.Flags.{Rises, AreTxs, taken_by}
use Rattle.rc_locks.proofs.flags.take_part.Given as goal

abbrev pub invariant-loop-index : goal.invariant-loop-index
invariant-loop-index l =
    Rises l.locks.entries × AreTxs l.locks.entries
    × ((m : Mark) → option_map (taken_by l.taker m (drop l.index l.part)) (found mark_cmp l.locks.entries m) ≡ option_map (taken_by l.taker m l.part) (found mark_cmp l.fn.locks.entries m))
