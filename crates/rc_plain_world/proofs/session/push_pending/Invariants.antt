use Rattle.std.proofs.Common.{◌≡◌, ◌++◌, take}
use Rattle.std.specs.List.{flat_map}
use Rattle.rc_plain_world.specs.Lines.{line_of}
use Rattle.rc_plain_world.proofs.session.push_pending.Given as goal

abbrev pub invariant-loop-place : goal.invariant-loop-place
invariant-loop-place l = l.lines ≡ l.initial.lines ++ flat_map (line_of l.network.sent) (take l.place l.network.pending)
