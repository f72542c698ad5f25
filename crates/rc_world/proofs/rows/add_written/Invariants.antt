use Rattle.std.proofs.Common.{◌≡◌, drop}
use Rattle.rc_protocol.specs.Shown.{with_written}
use Rattle.rc_world.proofs.rows.add_written.Given as goal

abbrev pub invariant-loop-index : goal.invariant-loop-index
invariant-loop-index l = with_written l.keys.keys (drop l.index l.part) ≡ with_written l.fn.keys.keys l.part
