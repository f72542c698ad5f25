use Rattle.std.proofs.Common.{◌≡◌, drop}
use Rattle.rc_runs.specs.declared.event.Event.TheVariants.{Lose}
use Rattle.rc_runs.specs.Script.{then_line, each}
use Rattle.rc_plain_world.proofs.LineFacts.{bare}
use Rattle.rc_plain_world.proofs.lines.lose_each.Given as goal

-- what is left to do, behind the lines so far, comes to what was to be done
abbrev pub invariant-loop-number : goal.invariant-loop-number
invariant-loop-number l = bare (then_line l.lines (each (λ n. Lose n) (drop l.number-index l.numbers) l.session)) ≡ bare (then_line l.initial.lines (each (λ n. Lose n) l.numbers l.initial.session))
