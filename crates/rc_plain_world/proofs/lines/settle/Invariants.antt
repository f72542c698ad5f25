use Rattle.std.proofs.Common.{◌≡◌, ◌-◌}
use Rattle.rc_runs.specs.Script.{then_line, settles}
use Rattle.rc_plain_world.proofs.LineFacts.{bare}
use Rattle.rc_plain_world.proofs.lines.settle.Given as goal

-- what is left to settle, behind the lines so far, comes to settling all
abbrev pub invariant-loop-count : goal.invariant-loop-count
invariant-loop-count l = bare (then_line l.lines (settles (2000000 - l.count) l.count l.session)) ≡ bare (then_line l.initial.lines (settles 2000000 0 l.initial.session))
