use Rattle.std.proofs.Common.{◌≡◌, ◌&&◌}
use Rattle.std.specs.Option.{option_map}
use Rattle.rc_ids.specs.Tables.{found}
use Rattle.rc_protocol.specs.Shard.{Mark, mark_cmp}
use Rattle.rc_locks.specs.Flags.{Rises, turned_where, taken_away, is_other_at, is_before}
use Rattle.rc_locks.proofs.TakeFacts.{left_from}
use Rattle.rc_locks.proofs.flags.take_key.Given as goal

abbrev pub invariant-loop-next : goal.invariant-loop-next
invariant-loop-next l =
    Rises l.locks.entries
    × ((m : Mark) → found mark_cmp l.locks.entries m ≡ option_map (turned_where (is_other_at l.key l.taker m && is_before l.next m.1) taken_away) (found mark_cmp l.fn.locks.entries m))

abbrev pub decreases-loop-next : goal.decreases-loop-next
decreases-loop-next l = left_from l.next
