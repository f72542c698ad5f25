use Rattle.std.proofs.Common.{◌≡◌, filter}
use Rattle.rc_protocol.specs.Shard.{added_all, is_taken}
use Rattle.rc_plain_shard.proofs.marks.Marks.add_taken.Given as goal

abbrev pub invariant-loop-mark : goal.invariant-loop-mark
invariant-loop-mark l =
    added_all l.self (filter (is_taken l.tx l.part) l.mark-iterator)
    ≡ added_all l.fn.self (filter (is_taken l.tx l.part) l.plain)
