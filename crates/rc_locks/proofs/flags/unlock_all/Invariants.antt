use Rattle.std.proofs.Common.{◌≡◌, drop}
use Rattle.std.specs.Option.{option_map}
use Rattle.rc_ids.specs.Tables.{found}
use Rattle.rc_protocol.specs.Shard.{Mark, mark_cmp}
use Rattle.rc_locks.specs.Flags.{Rises, given_back}
use Rattle.rc_locks.proofs.flags.unlock_all.Given as goal

abbrev pub invariant-loop-key : goal.invariant-loop-key
invariant-loop-key l =
    Rises l.locks.entries
    × ((m : Mark) → option_map (given_back l.tx m (drop l.key-index l.keys)) (found mark_cmp l.locks.entries m) ≡ option_map (given_back l.tx m l.keys) (found mark_cmp l.fn.locks.entries m))
