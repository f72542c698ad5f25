-- What a script prints, in pieces, one for each of its lines that prints, and how it ends.
use Rattle.std.specs.Prelude.{ℕ, List, [], ◌∷◌, ◌++◌, Option, Result, Ok, Err, nat_le, length, if◌then◌else◌}
use Rattle.std.specs.List.{flat_map}
use Rattle.rc_ids.specs.Tables.{maybe}
use Rattle.rc_ids.specs.Cluster.{Layout, equal_weights}
use Rattle.rc_report.specs.declared.line.Line.{Line}
use Rattle.rc_report.specs.declared.line.Line.TheVariants.{Outside, Named, Limit, ScriptBytes, ScriptLines, Log}
use Rattle.rc_report.specs.Lines.{line_text}
use Rattle.rc_script.specs.Reading.{script_of}
use Rattle.rc_script.specs.declared.command.Command.{Command}
use Rattle.rc_script.specs.declared.command.Command.TheVariants as commands
use Rattle.rc_script.specs.declared.script.NumberedCommand.{NumberedCommand}
use Rattle.rc_script.specs.declared.fault.ScriptFault.{ScriptFault}
use Rattle.rc_script.specs.declared.fault.ScriptFault.TheVariants as faults
use Rattle.rc_runs.specs.Refusals.{Happening}
use Rattle.rc_runs.specs.Session.{Session, Halt, Misnamed, Limited, LogRefused, FarmFails}
use Rattle.rc_runs.specs.Script.{performs}
use Rattle.rc_runs.specs.Stored.{Place, new_session}

-- how a script ends
pub data Ending : Type 0 where
  -- every line was run
  Done : Ending
  -- a line is outside the grammar, or names something wrongly
  BadScript : Ending
  -- a counted quantity would pass its number
  LimitMet : Ending
  -- a disk could not be had, created or opened
  FarmFault : Ending
  -- a log is damaged, has a record that is refused, or is of another world
  BadLog : Ending

-- the pieces of the text, and the ending
pub record Played : Type 0 where
  pub texts : List (List ℕ)
  pub ending : Ending

-- HOW A SCRIPT THAT HALTS IN A LINE ENDS
abbrev pub ending_of : Halt → Ending
ending_of (Misnamed name) = BadScript
ending_of (Limited which) = LimitMet
ending_of (LogRefused node fault) = BadLog
ending_of FarmFails = FarmFault

-- its last line, with the number of the line of the script
abbrev pub fault_lines : ℕ → Halt → List Line
fault_lines number (Misnamed name) = Named number name ∷ []
fault_lines number (Limited which) = Limit number which ∷ []
fault_lines number (LogRefused node fault) = Log node fault ∷ []
fault_lines number FarmFails = []

-- where a device fails nothing of the line is written
abbrev pub last_lines : ℕ → List Line → Halt → List Line
last_lines number lines FarmFails = []
last_lines number lines halt = lines ++ fault_lines number halt

-- PIECES: the text of a line of the script is one piece, its fault line with it; a line without text has none
abbrev pub piece_of : List Line → List (List ℕ)
piece_of [] = []
piece_of (line ∷ lines) = flat_map line_text (line ∷ lines) ∷ []

abbrev pub halted : ℕ → List Line → Halt → Played
halted number lines halt = record { texts = piece_of (last_lines number lines halt); ending = ending_of halt }

abbrev pub then_played : List Line → Played → Played
then_played lines rest = record { texts = piece_of lines ++ rest.texts; ending = rest.ending }

abbrev pub all_done : Played
all_done = record { texts = []; ending = Done }

unfoldable pub plays : Session → List NumberedCommand → Played
plays z [] = all_done
plays z (c ∷ cs) =
    let done = performs z c.command in
    maybe done.halt (then_played done.lines (plays done.after cs)) (λ halt. halted c.number done.lines halt)

-- THE TRACE: the events of all its lines, as far as it comes
unfoldable pub trace : Session → List NumberedCommand → List Happening
trace z [] = []
trace z (c ∷ cs) =
    let done = performs z c.command in
    done.trace ++ maybe done.halt (trace done.after cs) (λ halt. [])

-- A WORLD from the first line and those of its split keys
abbrev pub split_keys : List NumberedCommand → List (List ℕ)
split_keys cs = flat_map (λ (c : NumberedCommand). split_of c.command) cs
  where
    split_of : Command → List (List ℕ)
    split_of (commands.Split k) = k ∷ []
    split_of _ = []

abbrev pub layout_of : ℕ → ℕ → Option (List ℕ) → List NumberedCommand → Layout
layout_of dcs shards weights cs = record { dcs = dcs; shards = shards; splits = split_keys cs; weights = maybe weights (equal_weights dcs) (λ ws. ws) }

abbrev pub plays_from : List NumberedCommand → ℕ → Result Session Halt → Played
plays_from cs number (Ok z) = plays z cs
plays_from cs number (Err halt) = halted number [] halt

abbrev pub plays_in : Place → NumberedCommand → List NumberedCommand → Command → Played
plays_in p first cs (commands.World dcs shards weights) = plays_from cs first.number (new_session p (layout_of dcs shards weights cs))
plays_in p first cs _ = all_done

-- a script of skipped lines alone does nothing
unfoldable pub plays_script : Place → List NumberedCommand → Played
plays_script p [] = all_done
plays_script p (c ∷ cs) = plays_in p c cs c.command

-- A SCRIPT: limits of its bytes and lines before its grammar, and all of it before a line is run
abbrev pub refused_script : ScriptFault → Played
refused_script (faults.Line number) = record { texts = piece_of (Outside number ∷ []); ending = BadScript }
refused_script faults.TooManyLines = record { texts = piece_of (ScriptLines ∷ []); ending = LimitMet }
refused_script faults.NoMemory = all_done

abbrev pub plays_parsed : Place → Result (List NumberedCommand) ScriptFault → Played
plays_parsed p (Ok cs) = plays_script p cs
plays_parsed p (Err fault) = refused_script fault

abbrev pub most_script_bytes : ℕ
most_script_bytes = 1048576

abbrev pub plays_bytes : Place → List ℕ → Played
plays_bytes p bytes =
    if nat_le (length bytes) most_script_bytes then plays_parsed p (script_of bytes)
    else record { texts = piece_of (ScriptBytes ∷ []); ending = LimitMet }

-- the place is selected before the script is read
abbrev pub played : Place → List ℕ → Played
played p bytes = if p.select_fails then record { texts = []; ending = FarmFault } else plays_bytes p bytes
