use Rattle.std.proofs.Common.{◌≡◌, filter, drop}
use Rattle.rc_protocol.specs.Shard.{added_all, is_free}
use Rattle.rc_plain_shard.proofs.marks.Marks.add_free.Given as goal

abbrev pub invariant-loop-mark : goal.invariant-loop-mark
invariant-loop-mark l =
    added_all l.self (filter (is_free l.parts) (drop l.mark-index l.mark-items))
    ≡ added_all l.fn.self (filter (is_free l.parts) l.waiting)
