-- Why an abort is printed.
use Rattle.std.specs.Prelude.{◌≡◌, ℕ, List, ◌⊎◌, IsTrue}
use Rattle.rc_ids.specs.Tables.{In}
use Rattle.rc_ids.specs.Cluster.{Layout, is_quorum}
use Rattle.rc_ids.specs.declared.names.Outcome.TheVariants.{Abort as Aborted}
use Rattle.rc_body.specs.declared.reason.Reason.{Reason}
use Rattle.rc_record.specs.declared.record.Record.{Record}
use Rattle.rc_report.specs.declared.line.Line.{Line}
use Rattle.rc_report.specs.declared.line.Line.TheVariants.{Refused as RefusedLine, Learned}
use Rattle.rc_runs.specs.declared.event.Event.TheVariants.{Take}
use Rattle.rc_runs.specs.World.{World, Start, new_world}
use Rattle.rc_runs.specs.Refusals.{Happening, is_event, run, lines}
use Rattle.rc_claims.specs.Outcomes.{Chosen}
use Rattle.rc_claims.specs.Lives.{IsLife, IsStartOf, SayWhat, reopened_from}
use Rattle.rc_causes.specs.Moments.{Moment, world_at, PrintsNow}

-- a world as a life begins: a new one, or nodes that start from logs that say what those say that the life before left
pub data Begins (c : Layout) : World → Type 0 where
  New : Begins c (new_world c)
  Again : (earlier : List World) (v : World) (start : Start) (coords shards : List (List Record)) → IsLife c earlier v → IsStartOf v start → SayWhat v coords shards
      → Begins c (reopened_from c start coords shards)

-- the command to take t over was an event
pub record WasTaken (w : World) (hs : List Happening) (t : ℕ) : Type 0 where
  pub moment : Moment hs
  pub taker : ℕ
  pub is : moment.now.0 ≡ Take taker t
  pub event : IsTrue (is_event (world_at w hs moment) moment.now)

-- lines tell that a quorum of datacentres refused t
pub record IsRefusedByMany (c : Layout) (t : ℕ) (printed : List Line) : Type 0 where
  pub dcs : List ℕ
  pub enough : IsTrue (is_quorum c dcs)
  pub each : (d : ℕ) → In d dcs → (reason : Reason) × In (RefusedLine t d reason) printed

-- an abort that is printed is chosen, and there was a cause for it before: a take-over by command, or refusals from a quorum, all printed.
-- Neither is said to lead to an abort always
abbrev pub AbortsHaveCauses : Layout → World → List Happening → Happening → Type 0
AbortsHaveCauses c w before now = (t : ℕ) → PrintsNow (run w before) now (Learned t Aborted)
    → Chosen (run w before) Aborted t × (WasTaken w before t ⊎ IsRefusedByMany c t (lines w before))
