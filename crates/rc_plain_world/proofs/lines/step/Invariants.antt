use Rattle.std.proofs.Common.{◌≡◌, ◌-◌}
use Rattle.rc_runs.specs.Script.{then_line, steps}
use Rattle.rc_plain_world.proofs.LineFacts.{bare}
use Rattle.rc_plain_world.proofs.lines.step.Given as goal

-- the steps that are left, behind the lines so far, come to all steps, but for the events
abbrev pub invariant-loop-taken : goal.invariant-loop-taken
invariant-loop-taken l = bare (then_line l.lines (steps (l.count - l.taken) l.session)) ≡ bare (then_line l.initial.lines (steps l.count l.initial.session))
