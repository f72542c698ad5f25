-- What is written of a script, and of one of its lines.
use Rattle.std.specs.Prelude.{◌≡◌, ℕ, List, Option, Some, None, Result, Ok, Err, IfOk}
use Rattle.std.specs.List.{concat, flat_map}
use Rattle.rc_ids.specs.Cluster.{Layout}
use Rattle.rc_ids.specs.Tables.{maybe}
use Rattle.rc_ports.specs.declared.status.Status.{Status}
use Rattle.rc_report.specs.declared.line.Line.{Line}
use Rattle.rc_report.specs.Lines.{line_text}
use Rattle.rc_script.specs.declared.command.Command.{Command}
use Rattle.rc_script.specs.declared.command.Command.TheVariants as commands
use Rattle.rc_script.specs.declared.script.NumberedCommand.{NumberedCommand}
use Rattle.rc_runs.specs.Script.{LineDone}
use Rattle.rc_runs.specs.Text.{Played, ending_of, last_lines, layout_of}
use Rattle.rc_player.specs.declared.stop.Stop.{Stop}
use Rattle.rc_player.specs.declared.stop.Stop.TheVariants.{Failed, NoMemory}
use Rattle.rc_player.specs.Play.{status_of, TookAll, TookPart, TookFront}

-- how much of a text the sink took
abbrev pub TookAtStop : Stop → List ℕ → Option (List ℕ) → Option (List ℕ) → Type 0
TookAtStop Failed text start now = TookPart text start now
TookAtStop NoMemory text start now = TookFront text start now

abbrev pub Took : {T : Type 0} → List ℕ → Result T Stop → Option (List ℕ) → Option (List ℕ) → Type 0
Took text (Ok x) start now = TookAll text start now
Took text (Err stop) start now = TookAtStop stop text start now

-- the run wrote the text, and answers its ending
pub record Wrote (all : Played) (result : Result Status Stop) (start now : Option (List ℕ)) : Type 0 where
  pub text : Took (concat all.texts) result start now
  pub ending : IfOk result (λ status. status ≡ status_of all.ending)

-- A LINE OF THE SCRIPT
-- what it prints, with its fault line
abbrev pub lines_of : ℕ → LineDone → List Line
lines_of number done = maybe done.halt done.lines (last_lines number done.lines)

abbrev pub line_texts : List Line → List ℕ
line_texts lines = flat_map line_text lines

-- the status, where it ends the script
abbrev pub end_in : LineDone → Option Status
end_in done = maybe done.halt None (λ halt. Some (status_of (ending_of halt)))

-- the command is a world's, and the layout is that of this world with the splits of the later commands
abbrev pub LaysOut : Command → List NumberedCommand → Layout → Type 0
LaysOut (commands.World dcs shards weights) later c = c ≡ layout_of dcs shards weights later
LaysOut _ later c = ⊥
