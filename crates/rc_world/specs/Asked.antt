-- Which events may be asked for.
use Rattle.std.specs.Prelude.{◌≤◌}
use Rattle.rc_runs.specs.declared.event.Event.{Event}
use Rattle.rc_runs.specs.declared.event.Event.TheVariants.{CrashAt}

-- a cut comes at a call that is counted from 1, and leaves one of four images
abbrev pub IsCut : Event → Type 0
IsCut (CrashAt node k pick) = (1 ≤ k) × (pick ≤ 3)
IsCut e = Unit {0}
