-- Printed outcomes, and at which moments lines are printed.
use Rattle.std.specs.Prelude.{ℕ, List}
use Rattle.rc_ids.specs.Tables.{In}
use Rattle.rc_ids.specs.declared.names.Outcome.{Outcome}
use Rattle.rc_report.specs.declared.line.Line.{Line}
use Rattle.rc_report.specs.declared.line.Line.TheVariants.{Learned}
use Rattle.rc_runs.specs.World.{World}
use Rattle.rc_runs.specs.Refusals.{Happening, run, lines}
use Rattle.rc_claims.specs.Outcomes.{Chosen}
use Rattle.rc_causes.specs.Moments.{Moment, world_at, PrintsNow}

-- an outcome that was printed is chosen, also where its client vanished since. It is not said that a chosen outcome is printed
abbrev pub PrintedIsChosen : World → List Happening → Type 0
PrintedIsChosen w hs = (t : ℕ) (outcome : Outcome) → In (Learned t outcome) (lines w hs) → Chosen (run w hs) outcome t

-- each line of the run is printed in one of its happenings, so that a law on each happening is one on the whole text
abbrev pub LinesHaveMoments : World → List Happening → Type 0
LinesHaveMoments w hs = (line : Line) → In line (lines w hs) → (m : Moment hs) × PrintsNow (world_at w hs m) m.now line
