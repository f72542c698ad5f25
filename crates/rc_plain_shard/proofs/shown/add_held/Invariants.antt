use Rattle.std.proofs.Common.{◌≡◌}
use Rattle.rc_protocol.specs.Shown.{with_held}
use Rattle.rc_plain_shard.proofs.shown.add_held.Given as goal

abbrev pub invariant-loop-part : goal.invariant-loop-part
invariant-loop-part l = with_held l.keys.keys l.part-iterator ≡ with_held l.fn.keys.keys l.parts
