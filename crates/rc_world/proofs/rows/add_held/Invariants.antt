use Rattle.std.proofs.Common.{◌≡◌, drop}
use Rattle.rc_protocol.specs.Shown.{with_held}
use Rattle.rc_world.proofs.rows.add_held.Given as goal

abbrev pub invariant-loop-part : goal.invariant-loop-part
invariant-loop-part l = with_held l.keys.keys (drop l.part-index l.parts) ≡ with_held l.fn.keys.keys l.parts
